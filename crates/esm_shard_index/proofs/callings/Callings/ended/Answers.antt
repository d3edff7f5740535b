use Rattle.esm_shard_index.proofs.Places.{holds_at}
use Rattle.esm_shard_index.proofs.callings.Callings.ended.Goals as goal

pub ended_one-requires : goal.ended_one-requires
ended_one-requires c = record {
  came = rw c.loop-place.invariant.len (c.requires.came _ (holds_at c.args.places.now c.loop-place.place-index c.loop-place-test.true));
}
