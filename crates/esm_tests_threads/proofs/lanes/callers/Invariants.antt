use Rattle.std.proofs.Common.{◌≡◌, length}
use Rattle.esm_tests_threads.proofs.lanes.callers.Given as goal

abbrev pub invariant-loop-batcher : goal.invariant-loop-batcher
invariant-loop-batcher g l = length l.callers.items ≡ l.batcher
