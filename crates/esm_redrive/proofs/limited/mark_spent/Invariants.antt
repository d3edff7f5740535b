use Rattle.std.proofs.Common.{◌≡◌, ℕ, ◌<◌, cond, ◌&&◌, length, take}
use Rattle.std.specs.Prelude.{slice_index}
use Rattle.esm_model.specs.Entries.{holds}
use Rattle.esm_redrive.specs.Limited.{is_spent}
use Rattle.esm_redrive.proofs.limited.mark_spent.Given as goal

abbrev pub invariant-loop-place : goal.invariant-loop-place
invariant-loop-place l = record {
  sized : length l.spent.moments ≡ length l.initial.spent.moments;
  marked : (i : ℕ) → i < length l.initial.spent.moments → slice_index l.spent.moments i ≡ cond (holds (take l.place-index l.places) i && is_spent l.max_receives l.queue.state i) l.show (slice_index l.initial.spent.moments i);
  spare : l.spent.spare ≡ l.initial.spent.spare;
}
