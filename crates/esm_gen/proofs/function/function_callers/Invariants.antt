use Rattle.std.proofs.Common.{◌≡◌, length, []}
use Rattle.std.specs.List.{All}
use Rattle.esm_gen.proofs.function.function_callers.Given as goal

abbrev pub invariant-loop-batcher : goal.invariant-loop-batcher
invariant-loop-batcher l = record {
  count : length l.callers.items ≡ l.batcher;
  unused : All (λ f. f.log ≡ []) l.callers.items;
}
