use Rattle.std.proofs.Common.{◌∙◌}
use Rattle.esm_shard_index.proofs.Places.{holds_at}
use Rattle.esm_shard_index.specs.Windows.{open_in}
use Rattle.esm_ledger.specs.Shard.{measure_at}
use Rattle.esm_ledger.proofs.Landings.{leave_more}
use Rattle.esm_ledger.proofs.shard_steps.leave_windows.Goals as goal

pub bounds-measures-place : goal.bounds-measures-place
bounds-measures-place c = c.requires _ (holds_at c.args.places.now c.loop-place.place-index c.loop-place-test.true)

pub loop-place-preserved : goal.loop-place-preserved
loop-place-preserved c = record {
  opened = λ w. leave_more (λ i. (measure_at c.args.measures.now i).window) c.args.places.now c.loop-place.place-index w
      (open_in c.loop-place.windows w) (open_in c.args.windows.now w) (open_in c.fated.new.self w) c.loop-place-test.true (c.loop-place.invariant.opened w) (c.fated.ensures.opened w);
  tries = c.fated.ensures.tries ∙ c.loop-place.invariant.tries;
  states = c.fated.ensures.states ∙ c.loop-place.invariant.states;
  last = c.fated.ensures.last ∙ c.loop-place.invariant.last;
}
