-- What holds of each message of a queue, by its place, holds after every entry of its history.
use Rattle.std.proofs.Common.{◌≡◌, ℕ, zero, suc, ◌+◌, ◌<◌, Bool, cond, List, [], ◌∷◌, ◌++◌, length, refl, sym, ap, ◌∙◌, inl, inr, ◌⊎◌, arith, Some}
use Rattle.std.specs.Prelude.{slice_get}
use Rattle.std.proofs.lemmas.Bool.{cases_Bool}
use Rattle.std.proofs.lemmas.Option.{none-some, same_Some}
use Rattle.esm_model.specs.declared.item.Message.{Message}
use Rattle.esm_model.specs.Entries.{holds}
use Rattle.esm_queue_model.specs.declared.stored.Stored.{Stored}
use Rattle.esm_queue_model.specs.Queue.{changed_from}
use Rattle.esm_queue_model.specs.QueueSetting.{QueueSetting}
use Rattle.esm_queue_model.specs.QueueEntries.{coming, coming_from}

-- the message at a place of a list that was changed is the one before, changed or not
pub changed_at : (f : Stored → Stored) (places : List ℕ) (k : ℕ) (xs : List Stored) (i : ℕ) (x : Stored) → slice_get (changed_from f places k xs) i ≡ Some x → (y : Stored) × (slice_get xs i ≡ Some y) × ((x ≡ f y) ⊎ (x ≡ y))
changed_at f places k [] i x at = absurd (none-some x at)
changed_at f places k (y ∷ xs) zero x at =
    let here : cond (holds places k) (f y) y ≡ x = same_Some (cond (holds places k) (f y) y) x at in (
      y,
      refl,
      elim (cases_Bool (holds places k)) [
        | inl named ↦ inl (sym here ∙ ap (λ (b : Bool). cond b (f y) y) named)
        | inr other ↦ inr (sym here ∙ ap (λ (b : Bool). cond b (f y) y) other)
      ],
    )
changed_at f places k (y ∷ xs) (suc i) x at = changed_at f places (k + 1) xs i x at

-- a place of two lists is one of the first or of the second
pub joined_at : (xs ys : List Stored) (i : ℕ) (x : Stored) → slice_get (xs ++ ys) i ≡ Some x → ((i < length xs) × (slice_get xs i ≡ Some x)) ⊎ ((j : ℕ) × (i ≡ length xs + j) × (slice_get ys j ≡ Some x))
joined_at [] ys i x at = inr (i, (omega arith), at)
joined_at (y ∷ xs) ys zero x at = inl ((omega arith), at)
joined_at (y ∷ xs) ys (suc i) x at = elim (joined_at xs ys i x at) [
  | inl front ↦ inl ((let l = front.0 in omega arith), front.1)
  | inr behind ↦ inr (behind.0, (let e = behind.1 in omega arith), behind.2)
]

-- a message that comes is one of those that come
pub coming_at : (s : QueueSetting) (m k : ℕ) (xs : List Message) (j : ℕ) (x : Stored) → slice_get (coming_from s m k xs) j ≡ Some x → (y : Message) × (j < length xs) × (slice_get xs j ≡ Some y) × (x ≡ coming s m (k + j) y)
coming_at s m k [] j x at = absurd (none-some x at)
coming_at s m k (y ∷ xs) zero x at =
    let same : k ≡ k + 0 = omega arith in
    (y, (omega arith), refl, sym (same_Some (coming s m k y) x at) ∙ ap (λ (i : ℕ). coming s m i y) same)
coming_at s m k (y ∷ xs) (suc j) x at =
    let rest = coming_at s m (k + 1) xs j x at in
    let place : k + 1 + j ≡ k + suc j = omega arith in
    (rest.0, (let l = rest.1 in omega arith), rest.2, rest.3 ∙ ap (λ (i : ℕ). coming s m i rest.0) place)
