use Rattle.std.proofs.Common.{◌∙◌, sym, ap}
use Rattle.esm_model.specs.Entries.{is_running}
use Rattle.esm_shard_index.specs.declared.lane_state.LaneState.{LaneState}
use Rattle.esm_ledger.specs.Shard.{closing_in}
use Rattle.esm_ledger.specs.Ledger.{past_of}
use Rattle.esm_ledger.proofs.Readings.{lane_known, runs_low, runs_absent, closing_here, clash}
use Rattle.esm_ledger.proofs.ledger.Ledger.closing.Goals as goal

pub state-requires : goal.state-requires
state-requires c =
    let self = c.args.self.now in
    let r = c.requires.kept.rests in
    lane_known self c.args.lane c.in-Some.kept.now r c.in-Some.ensures.at (runs_low self c.args.lane r c.requires.runs)

pub returns-in-None : goal.returns-in-None
returns-in-None c = clash (is_running (past_of c.args.self.now) c.args.lane) c.requires.runs (runs_absent c.args.self.now c.args.lane c.requires.kept.rests c.in-None.ensures.none)

pub returns-in-Some : goal.returns-in-Some
returns-in-Some c =
    c.closing_window.ensures ∙ ap (λ (st : LaneState). closing_in st.running) c.state.ensures
    ∙ sym (closing_here c.args.self.now c.args.lane c.in-Some.kept.now c.requires.kept c.in-Some.ensures.at c.requires.runs)
