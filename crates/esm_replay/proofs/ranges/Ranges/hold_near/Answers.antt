use Rattle.std.proofs.Common.{◌≡◌, true, false, List, length, sym, ap, ◌∙◌, subst, arith}
use Rattle.std.specs.List.Sorted.{IsPartitionPoint}
use Rattle.esm_replay_model.specs.declared.range.Range.{Range}
use Rattle.esm_replay.specs.Ranges.{starts_by}
use Rattle.esm_replay.proofs.Finding.{none_started, last_decides}
use Rattle.esm_replay.proofs.ranges.Ranges.hold_near.Goals as goal

pub returns-then-count-eq0 : goal.returns-then-count-eq0
returns-then-count-eq0 c =
    let point = subst (λ (rs : List Range). IsPartitionPoint (λ (r : Range). starts_by (c.args.shard, c.args.number.now) r ≡ true) (λ (r : Range). starts_by (c.args.shard, c.args.number.now) r ≡ false) rs c.started_by-count.result)
    c.as_slice-2.ensures.value c.started_by-count.ensures.point in
    rw (← c.self.view_is) (sym (sym (c.self.invariant.1 c.args.shard c.args.number.now) ∙ none_started c.args.shard c.args.number.now c.self.inside.ranges.items c.started_by-count.result point (omega arith)))

pub returns : goal.returns
returns c =
    let point = subst (λ (rs : List Range). IsPartitionPoint (λ (r : Range). starts_by (c.args.shard, c.args.number.now) r ≡ true) (λ (r : Range). starts_by (c.args.shard, c.args.number.now) r ≡ false) rs c.started_by-count.result)
    c.as_slice-2.ensures.value c.started_by-count.ensures.point in
    let long : length c.as_slice-2.result.now ≡ length c.self.inside.ranges.items = ap (λ (rs : List Range). length rs) c.as_slice-2.ensures.value in
    rw (← c.self.view_is)
    (c.reaches.ensures
    ∙ last_decides c.args.shard c.args.number.now c.self.inside.ranges.items c.started_by-count.result c.index.result.now c.self.invariant.0 (omega (arith, long)) (omega arith) c.index.ensures point
    ∙ c.self.invariant.1 c.args.shard c.args.number.now)
