-- What each entry leaves deleted, and what was deleted by it.
use Rattle.std.proofs.Common.{◌≡◌, ◌∙◌, ◌⊎◌, ℕ, zero, suc, ◌+◌, ◌<◌, Bool, true, false, cond, List, [], ◌∷◌, ◌++◌, length, take, drop, Option, Some, None, ap, arith, inl, inr, refl, sym}
use Rattle.std.specs.Prelude.{slice_get, option_map, unwrap_or}
use Rattle.std.proofs.lemmas.Bool.{both_ways}
use Rattle.std.proofs.lemmas.List.{length-take, length-drop}
use Rattle.esm_model.specs.declared.entry.Entry.{Entry}
use Rattle.esm_model.specs.declared.entry.Entry.TheVariants.{Came, Began, Ended, Gave, Tried, Closed, Replayed, Shut}
use Rattle.esm_model.specs.declared.item.Message.{Message}
use Rattle.esm_model.specs.Entries.{holds}
use Rattle.esm_queue_model.specs.declared.stored.Stored.{Stored}
use Rattle.esm_queue_model.specs.Queue.{changed_from, deleted_once, received_once}
use Rattle.esm_queue_model.specs.QueueEntries.{coming_from, is_deleted, queue_count, queue_of}
use Rattle.esm_queue_model.specs.QueueSetting.{QueueSetting, is_found}
use Rattle.esm_queue_model.specs.QueueStep.{LegalQueue, MayComeQueue}
use Rattle.esm_queue_model.proofs.MoreMessages.{stored_count}
use Rattle.esm_queue_model.proofs.Places.{In}
use Rattle.esm_queue.proofs.Changing.{slice_get-changed_from}
use Rattle.esm_queue_core.proofs.Settling.{began_stays, came_stays, gave_stays}

abbrev pub deleted_in : Option Stored → Bool
deleted_in o = unwrap_or (option_map (λ (x : Stored). x.deleted) o) false

-- what was deleted stays so
pub stays_deleted : (s : QueueSetting) (h : List Entry) (e : Entry) (i : ℕ) → is_deleted s h i ≡ true → is_deleted s (e ∷ h) i ≡ true
stays_deleted s h (Came shard first count m) i is = came_stays s h shard first count m i is
stays_deleted s h (Began lane places closing m) i is = began_stays s h lane places closing m i is
stays_deleted s h (Ended lane reply m) i is = is
stays_deleted s h (Gave by shard places f line state m) i is = gave_stays s h (Gave by shard places f line state m) places i refl is
stays_deleted s h (Tried lane places closing tries m) i is = is
stays_deleted s h (Closed lane window m) i is = is
stays_deleted s h (Replayed shard places m) i is = is
stays_deleted s h (Shut m) i is = is

-- a receipt deletes nothing

received_same : (m : ℕ) (b : Bool) (o : Option Stored) → deleted_in (option_map (λ (x : Stored). cond b (received_once m x) x) o) ≡ deleted_in o
received_same m b None = refl
received_same m true (Some x) = refl
received_same m false (Some x) = refl

pub received_was : (s : QueueSetting) (h : List Entry) (places : List ℕ) (m i : ℕ) → deleted_in (slice_get (changed_from (received_once m) places 0 (queue_of s h).messages) i) ≡ true → is_deleted s h i ≡ true
received_was s h places m i is =
    let xs = (queue_of s h).messages in
    sym (ap deleted_in (slice_get-changed_from (received_once m) places 0 xs i) ∙ received_same m (holds places (0 + i)) (slice_get xs i)) ∙ is

-- a deletion deletes what it names

named_or_was : (b : Bool) (o : Option Stored) → deleted_in (option_map (λ (x : Stored). cond b (deleted_once x) x) o) ≡ true → (deleted_in o ≡ true) ⊎ (b ≡ true)
named_or_was true o is = inr refl
named_or_was false None is = inl is
named_or_was false (Some x) is = inl is

pub given_or_was : (s : QueueSetting) (h : List Entry) (places : List ℕ) (i : ℕ) → deleted_in (slice_get (changed_from deleted_once places 0 (queue_of s h).messages) i) ≡ true → (is_deleted s h i ≡ true) ⊎ In places i
given_or_was s h places i is =
    let xs = (queue_of s h).messages in
    let at : 0 + i ≡ i = omega arith in
    elim (named_or_was (holds places (0 + i)) (slice_get xs i) (sym (ap deleted_in (slice_get-changed_from deleted_once places 0 xs i)) ∙ is)) [
      | inl before ↦ inl before
      | inr named ↦ inr (sym (ap (holds places) at) ∙ named)
    ]

-- messages that come

get_joined : {A : Type 0} (xs ys : List A) (i : ℕ) → ((i < length xs) × (slice_get (xs ++ ys) i ≡ slice_get xs i)) ⊎ ((j : ℕ) × (i ≡ length xs + j) × (slice_get (xs ++ ys) i ≡ slice_get ys j))
get_joined [] ys i = inr (i, (omega arith), refl)
get_joined (x ∷ xs) ys zero = inl ((omega arith), refl)
get_joined (x ∷ xs) ys (suc i) = elim (get_joined xs ys i) [
  | inl front ↦ inl ((let l = front.0 in omega arith), front.1)
  | inr behind ↦ inr (behind.0, (let e = behind.1 in omega arith), behind.2)
]

-- one that comes is deleted where it was found so
coming_found : (s : QueueSetting) (m k : ℕ) (xs : List Message) (j : ℕ) → j < length xs → deleted_in (slice_get (coming_from s m k xs) j) ≡ is_found s (k + j)
coming_found s m k [] j l = absurd (omega arith)
coming_found s m k (x ∷ xs) zero l = let e : k ≡ k + 0 = omega arith in ap (is_found s) e
coming_found s m k (x ∷ xs) (suc j) l = let e : (k + 1) + j ≡ k + suc j = omega arith in coming_found s m (k + 1) xs j (omega arith) ∙ ap (is_found s) e

coming_only_found : (s : QueueSetting) (m k : ℕ) (xs : List Message) (j : ℕ) → deleted_in (slice_get (coming_from s m k xs) j) ≡ true → is_found s (k + j) ≡ true
coming_only_found s m k [] j is = absurd (both_ways false refl is)
coming_only_found s m k (x ∷ xs) zero is = let e : k ≡ k + 0 = omega arith in sym (ap (is_found s) e) ∙ is
coming_only_found s m k (x ∷ xs) (suc j) is = let e : (k + 1) + j ≡ k + suc j = omega arith in sym (ap (is_found s) e) ∙ coming_only_found s m (k + 1) xs j is

-- the place behind those that came before
module _ (s : QueueSetting) (h : List Entry) (shard first count m : ℕ) (legal : LegalQueue s h) (may : MayComeQueue s h shard first count) where
  abbrev part : List Message
  part = take count (drop first s.messages)

  place_is : (i j : ℕ) → i ≡ length (queue_of s h).messages + j → i ≡ first + j
  place_is i j is = let n = stored_count s h legal in let next = may.next in omega arith

  part_long : length part ≡ count
  part_long =
      let within = may.within in
      let a = length-take count (drop first s.messages) in
      let b = length-drop first s.messages in
      omega (arith, a, b, within)

  pub come_or_was : (i : ℕ) → is_deleted s (Came shard first count m ∷ h) i ≡ true → (is_deleted s h i ≡ true) ⊎ (is_found s i ≡ true)
  come_or_was i is =
      let xs = (queue_of s h).messages in
      elim (get_joined xs (coming_from s m first part) i) [
        | inl front ↦ inl (sym (ap deleted_in front.1) ∙ is)
        | inr behind ↦ inr (
            let found : is_found s (first + behind.0) ≡ true = coming_only_found s m first part behind.0 (sym (ap deleted_in behind.2) ∙ is) in
            ap (is_found s) (place_is i behind.0 behind.1) ∙ found)
      ]

  -- one that comes and was found deleted is deleted
  pub come_found : (i : ℕ) → i < queue_count (Came shard first count m ∷ h) → is_found s i ≡ true → (i < queue_count h → is_deleted s h i ≡ true) → is_deleted s (Came shard first count m ∷ h) i ≡ true
  come_found i low found before =
      let xs = (queue_of s h).messages in
      let n = stored_count s h legal in
      let number : queue_count (Came shard first count m ∷ h) ≡ count + queue_count h = rw may.queue refl in
      elim (get_joined xs (coming_from s m first part) i) [
        | inl front ↦ (let l = front.0 in came_stays s h shard first count m i (before (omega arith)))
        | inr behind ↦ (
            let at = behind.1 in
            let long = part_long in
            let l : behind.0 < length part = omega (arith, at, long, n, low, number) in
            ap deleted_in behind.2 ∙ (coming_found s m first part behind.0 l ∙ (sym (ap (is_found s) (place_is i behind.0 behind.1)) ∙ found)))
      ]
