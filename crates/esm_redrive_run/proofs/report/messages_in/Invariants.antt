use Rattle.std.proofs.Common.{◌≡◌, take}
use Rattle.std.specs.Prelude.{reverse}
use Rattle.esm_queue_model.specs.QueueEntries.{queue_count}
use Rattle.esm_redrive_run.proofs.report.messages_in.Given as goal

abbrev pub invariant-loop-entry : goal.invariant-loop-entry
invariant-loop-entry l = l.messages ≡ queue_count (reverse (take l.entry-index l.trace))
