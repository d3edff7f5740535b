-- The moment at which a queue keeps that a message came is that of the `Came` that covers its place.
use Rattle.std.proofs.Common.{◌≡◌, ℕ, ◌+◌, ◌<◌, ◌≤◌, true, false, ◌&&◌, List, [], ◌∷◌, length, take, drop, refl, sym, ap, ◌∙◌, inl, inr, arith, Some}
use Rattle.std.specs.Prelude.{◌==◌, nat_le, nat_lt, slice_get}
use Rattle.std.proofs.lemmas.List.{length-take}
use Rattle.std.proofs.lemmas.Bool.{and_from, and_left, and_right, eq-eqb, le-leb, lt-leb, lt-ltb}
use Rattle.std.proofs.lemmas.Option.{none-some}
use Rattle.esm_model.specs.declared.entry.Entry.{Entry}
use Rattle.esm_model.specs.declared.entry.Entry.TheVariants.{Came, Began, Ended, Gave, Tried, Closed, Replayed, Shut}
use Rattle.esm_model.specs.Entries.{covers, came_moment}
use Rattle.esm_queue_model.specs.declared.stored.Stored.{Stored}
use Rattle.esm_queue_model.specs.Queue.{changed_from, received_once, deleted_once, stored_at}
use Rattle.esm_queue_model.specs.QueueSetting.{QueueSetting}
use Rattle.esm_queue_model.specs.QueueEntries.{coming_from, queue_of}
use Rattle.esm_queue_model.specs.QueueStep.{MayComeQueue, LegalQueue}
use Rattle.esm_queue_model.proofs.MoreMessages.{stored_count}
use Rattle.esm_queue_core.proofs.ByPlace.{changed_at, joined_at, coming_at}

-- a change leaves the moments
pub kept_came : (f : Stored → Stored) → ((y : Stored) → (f y).came ≡ y.came) → (places : List ℕ) (xs : List Stored) (i n : ℕ) (x : Stored) → slice_get (changed_from f places 0 xs) i ≡ Some x → ((y : Stored) → slice_get xs i ≡ Some y → y.came ≡ n) → x.came ≡ n
kept_came f keeps places xs i n x at before =
    let old = changed_at f places 0 xs i x at in
    elim old.2 [
      | inl is ↦ ap (λ (z : Stored). z.came) is ∙ keeps old.0 ∙ before old.0 old.1
      | inr is ↦ ap (λ (z : Stored). z.came) is ∙ before old.0 old.1
    ]

-- a `Came` covers what follows the messages that came before it, and none of these
covered : (s : QueueSetting) (h : List Entry) (shard first count m i : ℕ) → MayComeQueue s h shard first count → first ≤ i → i < first + count → came_moment (Came shard first count m ∷ h) 0 i ≡ m
covered s h shard first count m i may low high =
    let is : covers 0 i (Came shard first count m) ≡ true = and_from (shard == 0) (nat_le first i && nat_lt i (first + count)) (eq-eqb shard 0 may.queue) (and_from (nat_le first i) (nat_lt i (first + count)) (le-leb first i low) (lt-ltb i (first + count) high)) in
    rw is refl

not_covered : (h : List Entry) (shard first count m i : ℕ) → i < first → came_moment (Came shard first count m ∷ h) 0 i ≡ came_moment h 0 i
not_covered h shard first count m i low =
    let is : covers 0 i (Came shard first count m) ≡ false = and_right (shard == 0) (nat_le first i && nat_lt i (first + count)) (and_left (nat_le first i) (nat_lt i (first + count)) (lt-leb first i low)) in
    rw is refl

pub arrival_is : (s : QueueSetting) (h : List Entry) → LegalQueue s h → (i : ℕ) (x : Stored) → stored_at (queue_of s h) i ≡ Some x → x.came ≡ came_moment h 0 i
arrival_is s [] legal i x at = absurd (none-some x at)
arrival_is s (Came shard first count m ∷ h) legal i x at =
    let may = legal.1.1 in
    let next = may.next in
    let old = (queue_of s h).messages in
    let number = stored_count s h legal.0 in
    let fresh = take count (drop first s.messages) in
    elim (joined_at old (coming_from s m first fresh) i x at) [
      | inl before ↦ (let l = before.0 in arrival_is s h legal.0 i x before.1 ∙ sym (not_covered h shard first count m i (omega arith)))
      | inr after ↦
          (let new = coming_at s m first fresh after.0 x after.2 in
          let e = after.1 in
          let l = new.1 in
          let most : length fresh ≤ count = (let n = length-take count (drop first s.messages) in omega arith) in
          ap (λ (z : Stored). z.came) new.3 ∙ sym (covered s h shard first count m i may (omega arith) (omega arith)))
    ]
arrival_is s (Began lane places closing m ∷ h) legal i x at = kept_came (received_once m) (λ y. refl) places (queue_of s h).messages i (came_moment h 0 i) x at (arrival_is s h legal.0 i)
arrival_is s (Gave by shard places f line state m ∷ h) legal i x at = kept_came deleted_once (λ y. refl) places (queue_of s h).messages i (came_moment h 0 i) x at (arrival_is s h legal.0 i)
arrival_is s (Ended lane reply m ∷ h) legal i x at = arrival_is s h legal.0 i x at
arrival_is s (Tried lane places closing tries m ∷ h) legal i x at = arrival_is s h legal.0 i x at
arrival_is s (Closed lane window m ∷ h) legal i x at = arrival_is s h legal.0 i x at
arrival_is s (Replayed shard places m ∷ h) legal i x at = arrival_is s h legal.0 i x at
arrival_is s (Shut m ∷ h) legal i x at = arrival_is s h legal.0 i x at
