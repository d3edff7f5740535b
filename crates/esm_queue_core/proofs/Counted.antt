-- Every message that came is deleted exactly where a core counted as many deletions as it stores messages.
use Rattle.std.proofs.Common.{◌≡◌, ℕ, eqb, length, sym, ap, ◌∙◌, inl, inr}
use Rattle.std.proofs.lemmas.Bool.Decides.{eqb_tells}
use Rattle.esm_queue_model.specs.Queue.{QueueState}
use Rattle.esm_queue_model.specs.QueueEntries.{queue_of, queue_count}
use Rattle.esm_queue_model.specs.QueueStep.{LegalQueue}
use Rattle.esm_queue_model.proofs.MoreMessages.{stored_count}
use Rattle.esm_queue_core.specs.Next.{is_all_deleted, deleted_number}
use Rattle.esm_queue_core.specs.Kept.{Parts, IsKept, own}
use Rattle.esm_queue_core.proofs.Deleted.{none_waits, one_waits}

pub all_counted : (p : Parts) (n : ℕ) → IsKept p → LegalQueue (own p) p.past → n ≡ length p.held.state.messages → eqb p.deleted n ≡ is_all_deleted (own p) p.past
all_counted p n k legal is =
    let q : QueueState = queue_of (own p) p.past in
    let sized : length (queue_of (own p) p.past).messages ≡ queue_count p.past = stored_count (own p) p.past legal in
    let number : p.deleted ≡ deleted_number (queue_of (own p) p.past) = k.deleted ∙ ap deleted_number k.queue in
    let all : n ≡ queue_count p.past = is ∙ (ap (λ (r : QueueState). length r.messages) k.queue ∙ sized) in
    elim (eqb_tells p.deleted n) [
      | inl same ↦ same.0 ∙ sym (none_waits q (queue_count p.past) sized (sym number ∙ (same.1 ∙ all)))
      | inr other ↦ other.0 ∙ sym (one_waits q (queue_count p.past) sized (λ e. other.1 (number ∙ (e ∙ sym all))))
    ]
