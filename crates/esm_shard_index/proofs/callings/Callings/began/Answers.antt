use Rattle.std.proofs.Common.{◌∙◌}
use Rattle.esm_shard_index.specs.Callings.{calls_at}
use Rattle.esm_shard_index.proofs.Places.{holds_at}
use Rattle.esm_shard_index.proofs.CallingSteps.{first_counted, one_counted}
use Rattle.esm_shard_index.proofs.callings.Callings.began.Goals as goal

pub began_one-requires-clause-came : goal.began_one-requires-clause-came
began_one-requires-clause-came c = rw c.loop-place.invariant.len (c.requires.came _ (holds_at c.args.places.now c.loop-place.place-index c.loop-place-test.true))

pub began_one-requires-clause-few : goal.began_one-requires-clause-few
began_one-requires-clause-few c =
    let same = first_counted (calls_at c.args.self.now) (calls_at c.loop-place.self) c.args.places.now c.loop-place.place-index c.requires.once c.loop-place-test.true c.loop-place.invariant.calls in
    rw same (c.requires.few _ (holds_at c.args.places.now c.loop-place.place-index c.loop-place-test.true))

pub loop-place-preserved : goal.loop-place-preserved
loop-place-preserved c = record {
  len = c.began_one.ensures.len ∙ c.loop-place.invariant.len;
  calls = one_counted (calls_at c.args.self.now) (calls_at c.loop-place.self) (calls_at c.began_one.new.self) c.args.places.now c.loop-place.place-index
      c.requires.once c.loop-place-test.true c.loop-place.invariant.calls c.began_one.ensures.here c.began_one.ensures.others;
  responses = λ i. c.began_one.ensures.responses i ∙ c.loop-place.invariant.responses i;
  room = c.began_one.ensures.room ∙ c.loop-place.invariant.room;
}
