use Rattle.std.proofs.Common.{◌∙◌, ◌≤◌, sym, ap, subst}
use Rattle.esm_model.specs.declared.moment.TheConstants.{MAX_MOMENT}
use Rattle.esm_model.specs.Batches.{delay_from}
use Rattle.esm_shard_index.specs.declared.lane_state.LaneState.{LaneState}
use Rattle.esm_ledger.proofs.Readings.{lane_known, lane_bounds, delay_absent, delay_here}
use Rattle.esm_ledger.proofs.ledger.Ledger.delay_end.Goals as goal

pub state-requires : goal.state-requires
state-requires c = lane_known c.args.self.now c.args.lane c.in-Some.kept.now c.requires.kept.rests c.in-Some.ensures.at c.requires.known

pub delay_end-requires : goal.delay_end-requires
delay_end-requires c =
    subst (λ (st : LaneState). st.last_end ≤ MAX_MOMENT) (sym c.state.ensures)
    (lane_bounds c.args.self.now c.args.lane c.in-Some.kept.now c.requires.kept c.in-Some.ensures.at c.requires.known).last_end

pub returns-in-None : goal.returns-in-None
returns-in-None c = delay_absent c.args.self.now c.args.lane c.requires.kept.rests c.in-None.ensures.none

pub returns-in-Some : goal.returns-in-Some
returns-in-Some c =
    c.delay_end.ensures ∙ ap (λ (st : LaneState). delay_from st.failures st.last_end) c.state.ensures
    ∙ delay_here c.args.self.now c.args.lane c.in-Some.kept.now c.requires.kept c.in-Some.ensures.at c.requires.known
