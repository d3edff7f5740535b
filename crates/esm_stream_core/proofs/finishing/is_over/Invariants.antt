use Rattle.std.proofs.Common.{ℕ, ◌<◌}
use Rattle.esm_ledger.specs.Ledger.{past_of, setting_of}
use Rattle.esm_stream_core.specs.Quiet.{IsQuiet}
use Rattle.esm_stream_core.proofs.finishing.is_over.Given as goal

abbrev pub invariant-loop-batcher : goal.invariant-loop-batcher
invariant-loop-batcher l = (k : ℕ) → k < l.batcher → IsQuiet (setting_of l.ledger) (past_of l.ledger) k
