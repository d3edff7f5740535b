use Rattle.std.specs.BTreeMap as map
use Rattle.esm_journal_state.specs.Table.{pair_cmp}
use Rattle.esm_journal_state.proofs.Pairs.{dropped_more}
use Rattle.esm_journal_state.proofs.table.drop_tries.Goals as goal

pub loop-place-preserved : goal.loop-place-preserved
loop-place-preserved c = λ n i.
    dropped_more c.args.shard n i c.args.places.now c.loop-place.place-index (map.get pair_cmp c.args.tries.now (n, i)) (map.get pair_cmp c.loop-place.tries (n, i)) (map.get pair_cmp c.remove.new.self (n, i))
    c.loop-place-test.true (c.remove.ensures.updates.0 (n, i)) (c.loop-place.invariant n i)
