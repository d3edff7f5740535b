use Rattle.std.proofs.Common.{◌≡◌, length}
use Rattle.std.specs.List.{All}
use Rattle.esm.specs.Callers.{IsCaller, answerer}
use Rattle.esm.proofs.callers.callers.Given as goal

abbrev pub invariant-loop-batcher : goal.invariant-loop-batcher
invariant-loop-batcher g l = record {
  count : length l.callers.items ≡ l.batcher;
  each : All (λ c. IsCaller l.functions l.timeout (answerer c)) l.callers.items;
}
