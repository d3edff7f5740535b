use Rattle.std.proofs.Common.{ℕ, List, ◌+◌, ◌&&◌, ap, ◌∙◌}
use Rattle.std.specs.Prelude.{if◌then◌else◌}
use Rattle.esm_model.specs.Entries.{holds}
use Rattle.esm_model.specs.Ruling.{capped_tries, is_counted}
use Rattle.esm_model.specs.Tries.{is_closed_by}
use Rattle.esm_shard_index.specs.declared.lane_state.LaneState.{LaneState}
use Rattle.esm_shard_index.specs.Callings.{response_at}
use Rattle.esm_shard_index.specs.Windows.{tries_in}
use Rattle.esm_ledger.specs.Shard.{closing_in}
use Rattle.esm_ledger.proofs.Shards.{shard_ended}
use Rattle.esm_ledger.proofs.shard.ShardLedger.ended.Goals as goal

pub returns-clause-kept : goal.returns-clause-kept
returns-clause-kept c = λ s h reply.
    let self = c.args.self.now in
    shard_ended s h self c.ended.new.self c.count_try.new.windows c.end.new.self c.args.lane c.args.response c.args.verdict reply c.args.moment
    c.requires.known c.ended.ensures.len c.ended.ensures.calls
    (λ i. c.ended.ensures.responses i ∙ ap (λ (xs : List ℕ). if holds xs i then c.args.response else response_at self.callings i) c.called-places.ensures)
    (λ w. c.count_try.ensures.tries w ∙ ap (λ (st : LaneState). if is_closed_by (closing_in st.running) w && is_counted c.args.verdict.rest then capped_tries (tries_in self.windows w + 1) else tries_in self.windows w) c.state-state.ensures)
    c.count_try.ensures.opened c.count_try.ensures.states c.count_try.ensures.last
    c.end.ensures.lane c.end.ensures.others c.end.ensures.lanes
