use Rattle.std.proofs.Common.{◌≡◌}
use Rattle.esm_queue_core.proofs.Deletions.{HasDeleted}
use Rattle.esm_redrive_core.proofs.paying.delete_all.Given as goal

abbrev pub invariant-loop-place : goal.invariant-loop-place
invariant-loop-place l = record {
  done : HasDeleted l.initial.queue.state l.places l.place-index l.queue.state l.deleted;
  limit : l.queue.max_receives ≡ l.initial.queue.max_receives;
}
