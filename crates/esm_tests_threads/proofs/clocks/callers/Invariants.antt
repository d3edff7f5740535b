use Rattle.std.proofs.Common.{◌≡◌, length}
use Rattle.esm_tests_threads.proofs.clocks.callers.Given as goal

abbrev pub invariant-loop-batcher : goal.invariant-loop-batcher
invariant-loop-batcher l = length l.callers.items ≡ l.batcher
