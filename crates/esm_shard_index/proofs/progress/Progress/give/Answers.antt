use Rattle.esm_shard_index.proofs.Places.{holds_at}
use Rattle.esm_shard_index.proofs.progress.Progress.give.Goals as goal

pub give_one-requires : goal.give_one-requires
give_one-requires c = record {
  came = rw c.loop-place.invariant.len (c.requires.came _ (holds_at c.args.places.now c.loop-place.place-index c.loop-place-test.true));
}
