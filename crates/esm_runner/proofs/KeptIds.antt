-- Each message that came in a legal history has the id that the journal kept of its place, where it kept a deletion.
use Rattle.std.proofs.Common.{◌≡◌, ℕ, ◌+◌, ◌<◌, Bool, List, [], ◌∷◌, Some, arith, inl, inr, subst}
use Rattle.std.specs.Prelude.{◌==◌, if◌then◌else◌}
use Rattle.std.proofs.lemmas.Bool.Decides.{eqb_tells, leb_tells}
use Rattle.esm_model.specs.declared.entry.Entry.{Entry}
use Rattle.esm_model.specs.declared.entry.Entry.TheVariants.{Came}
use Rattle.esm_model.specs.declared.item.Message.{Message}
use Rattle.esm_model.specs.declared.setup.FoundDeletion.{FoundDeletion}
use Rattle.esm_queue_model.specs.QueueEntries.{queue_count}
use Rattle.esm_queue_model.specs.QueueSetting.{QueueSetting, found_deletion, message_at}
use Rattle.esm_queue_model.specs.QueueStep.{IsKeptMessage, LegalQueue, MayComeQueue}

-- the message at the place has the id that was kept of it
pub record IsKeptAt (s : QueueSetting) (i : ℕ) : Type 0 where
  pub same : (f : FoundDeletion) (m : Message) → message_at s i ≡ Some m → found_deletion s i ≡ Some f → m.id ≡ f.text

-- so each message that came

kept_next : (s : QueueSetting) (h : List Entry) (i first count : ℕ) → first ≡ queue_count h → IsKeptMessage s first count → (i < queue_count h → IsKeptAt s i) → i < count + queue_count h → IsKeptAt s i
kept_next s h i first count next kept before came = elim (leb_tells first i) [
  | inl here ↦
      let within : i < first + count = omega (arith, came, next) in
      record { same = λ f m. kept i f m here.1 within }
  | inr earlier ↦ before (omega (arith, earlier.1, next))
]

kept_after : (s : QueueSetting) (h : List Entry) (shard i first count : ℕ) → MayComeQueue s h shard first count → (i < queue_count h → IsKeptAt s i)
    → i < (if shard == 0 then count + queue_count h else queue_count h) → IsKeptAt s i
kept_after s h shard i first count comes before came = elim (eqb_tells shard 0) [
  | inl mine ↦ kept_next s h i first count comes.next comes.kept before
      (subst (λ (b : Bool). i < (if b then count + queue_count h else queue_count h)) mine.0 came)
  | inr other ↦ before (subst (λ (b : Bool). i < (if b then count + queue_count h else queue_count h)) other.0 came)
]

pub kept_of_came : (s : QueueSetting) (h : List Entry) (i : ℕ) → LegalQueue s h → i < queue_count h → IsKeptAt s i
kept_of_came s [] i legal came = absurd (omega (arith, came))
kept_of_came s (Came shard first count moment ∷ h) i legal came = kept_after s h shard i first count legal.1.1 (kept_of_came s h i legal.0) came
kept_of_came s (e ∷ h) i legal came = kept_of_came s h i legal.0 came
