use Rattle.std.specs.BTreeSet as set
use Rattle.esm_journal_state.specs.Table.{pair_cmp}
use Rattle.esm_journal_state.proofs.Pairs.{added_more}
use Rattle.esm_journal_state.proofs.table.keep_replays.Goals as goal

pub loop-place-preserved : goal.loop-place-preserved
loop-place-preserved c = λ n i.
    added_more c.args.shard n i c.args.places.now c.loop-place.place-index (set.contains pair_cmp c.args.replays.now (n, i)) (set.contains pair_cmp c.loop-place.replays (n, i)) (set.contains pair_cmp c.insert.new.self (n, i))
    c.loop-place-test.true (c.in_ok-insert.ensures.updates.0 (n, i)) (c.loop-place.invariant n i)
