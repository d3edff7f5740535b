use Rattle.std.proofs.Common.{ℕ, not}
use Rattle.esm_queue_model.specs.Queue.{is_deleted_at}
use Rattle.esm_queue_core.proofs.Walking.{IsWalked}
use Rattle.esm_queue_core.proofs.ending.kept_places.Given as goal

abbrev pub invariant-loop-position : goal.invariant-loop-position
invariant-loop-position l = IsWalked (λ (i : ℕ). not (is_deleted_at l.queue.state i)) l.failed l.places l.kept.items l.passed l.position
