use Rattle.std.proofs.Common.{◌∙◌, sym}
use Rattle.esm_model.specs.Entries.{is_running}
use Rattle.esm_ledger.specs.Ledger.{past_of}
use Rattle.esm_ledger.proofs.Readings.{lane_known, lane_bounds, runs_low, runs_absent, called_here, clash}
use Rattle.esm_ledger.proofs.ledger.Ledger.called.Goals as goal

pub called-requires-clause-known : goal.called-requires-clause-known
called-requires-clause-known c =
    let self = c.args.self.now in
    let r = c.requires.kept.rests in
    lane_known self c.args.lane c.in-Some.kept.now r c.in-Some.ensures.at (runs_low self c.args.lane r c.requires.runs)

pub called-requires-clause-within : goal.called-requires-clause-within
called-requires-clause-within c =
    let self = c.args.self.now in
    (lane_bounds self c.args.lane c.in-Some.kept.now c.requires.kept c.in-Some.ensures.at (runs_low self c.args.lane c.requires.kept.rests c.requires.runs)).called

pub returns-in-None : goal.returns-in-None
returns-in-None c = clash (is_running (past_of c.args.self.now) c.args.lane) c.requires.runs (runs_absent c.args.self.now c.args.lane c.requires.kept.rests c.in-None.ensures.none)

pub returns-in-Some : goal.returns-in-Some
returns-in-Some c = c.called.ensures ∙ sym (called_here c.args.self.now c.args.lane c.in-Some.kept.now c.requires.kept c.in-Some.ensures.at c.requires.runs)
