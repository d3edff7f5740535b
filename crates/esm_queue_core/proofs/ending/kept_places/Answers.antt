use Rattle.std.proofs.Common.{ℕ, not, arith}
use Rattle.esm_queue_model.specs.Queue.{is_deleted_at}
use Rattle.esm_queue_core.proofs.Walking.{IsPassed, walk_failed, walk_kept, walk_gone}
use Rattle.esm_queue_core.proofs.ending.kept_places.Goals as goal
use Rattle.esm_queue_core.proofs.ending.kept_places.Goals.{then-passed-failed+then-failed-passed, else-passed-failed+then-not-is_deleted+in_ok-push, else-passed-failed-via-then-passed-failed+else-failed-passed, else-passed-failed-via-else-passed-failed, else-passed-failed+else-not-is_deleted}

pub loop-position-preserved : goal.loop-position-preserved
loop-position-preserved c =
    elim c.if-passed-failed.branch [
      | then-passed-failed+then-failed-passed w ↦
          rw (w.kept-is, w.passed-is) (walk_failed _ c.args.failed.now c.args.places.now c.loop-position.kept.items c.loop-position.passed c.loop-position.position c.loop-position-test.true w.if-passed-failed.true w.if-failed-passed.true c.loop-position.invariant)
      | else-passed-failed+then-not-is_deleted+in_ok-push w ↦
          (let p : IsPassed c.args.failed.now c.loop-position.passed c.loop-position.position = record {
            not_next = λ l at. elim w.else-passed-failed.branch [
              | else-passed-failed-via-then-passed-failed+else-failed-passed w' ↦ absurd (omega arith)
              | else-passed-failed-via-else-passed-failed w' ↦ absurd (omega arith)
            ];
          } in
          rw (w.kept-is, w.passed-is) (walk_kept (λ (i : ℕ). not (is_deleted_at c.args.queue.now.state i)) c.args.failed.now c.args.places.now c.loop-position.kept.items _ c.loop-position.passed c.loop-position.position c.loop-position-test.true p
          (let n = w.if-not-is_deleted.true in let d = w.is_deleted.ensures in grind arith) w.in_ok-push.ensures.items c.loop-position.invariant))
      | else-passed-failed+else-not-is_deleted w ↦
          (let p : IsPassed c.args.failed.now c.loop-position.passed c.loop-position.position = record {
            not_next = λ l at. elim w.else-passed-failed.branch [
              | else-passed-failed-via-then-passed-failed+else-failed-passed w' ↦ absurd (omega arith)
              | else-passed-failed-via-else-passed-failed w' ↦ absurd (omega arith)
            ];
          } in
          rw (w.kept-is, w.passed-is) (walk_gone (λ (i : ℕ). not (is_deleted_at c.args.queue.now.state i)) c.args.failed.now c.args.places.now c.loop-position.kept.items c.loop-position.passed c.loop-position.position c.loop-position-test.true p
          (let n = w.if-not-is_deleted.false in let d = w.is_deleted.ensures in grind arith) c.loop-position.invariant))
    ]
