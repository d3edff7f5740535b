use Rattle.std.specs.BTreeMap.Range.{IsRangeOf}
use Rattle.std.specs.declared.ops.Bound.TheVariants.{Included}
use Rattle.esm_journal_state.specs.Table.{pair_cmp}
use Rattle.esm_journal_state.proofs.Fresh.{in_shard}
use Rattle.esm_journal_state.proofs.judge.none_between.Goals as goal

pub returns-in-None : goal.returns-in-None
returns-in-None c = λ _ i low high.
    let r : IsRangeOf pair_cmp (Included (c.args.shard, c.args.first)) (Included (c.args.shard, c.args.last)) c.args.fates.now c.range.result = c.range.ensures.in_range tt in
    r.5 c.in-None.ensures.steps.0 (c.args.shard, i) (in_shard c.args.shard c.args.first i low, in_shard c.args.shard i c.args.last high)
