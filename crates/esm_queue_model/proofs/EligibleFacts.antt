-- Which messages are eligible.
use Rattle.std.proofs.Common.{List, ◌≡◌, ℕ, ◌<◌, Bool, true, false, not, ◌&&◌, take, sym, ap, ◌∙◌, ◌⊎◌, inl, inr, arith, Option, Some}
use Rattle.std.specs.Prelude.{unwrap_or, option_map, slice_get}
use Rattle.std.proofs.lemmas.Bool.{cases_Bool, and_parts, and_from, and_cases, both_ways, not-true, not_from_false, not_from_true, false_from_ne_true, and_left, and_right}
use Rattle.esm_queue_model.specs.declared.stored.Stored.{Stored}
use Rattle.esm_queue_model.specs.Queue.{QueueState, stored_at, is_hidden, is_shown, is_in_flight, is_held_back, is_receivable, is_eligible, same_group}
use Rattle.esm_queue_model.specs.QueueLaws.{EligibleByGroup}
use Rattle.esm_queue_model.proofs.Groups.{any_at, at_any, take_at, at_take, is_group-trans}

-- an earlier message that is in flight and of the group
abbrev pub blocks : ℕ → ℕ → Stored → Stored → Bool
blocks v m x y = same_group y x && is_in_flight v m y

pub eligible_is : (q : QueueState) (m i : ℕ) (x : Stored) → stored_at q i ≡ Some x → is_eligible q m i ≡ is_receivable q m (take i q.messages) x
eligible_is q m i x at = ap (λ (o : Option Stored). unwrap_or (option_map (is_receivable q m (take i q.messages)) o) false) at

-- a message that is neither deleted nor in flight is shown
pub in_flight_or_shown : (v m : ℕ) (y : Stored) → is_in_flight v m y ≡ false → (y.deleted ≡ true) ⊎ (is_shown v m y ≡ true)
in_flight_or_shown v m y h =
    elim (cases_Bool y.deleted) [
      | inl is ↦ inl is
      | inr stays ↦ elim (and_cases (not y.deleted) (is_hidden v m y) h) [
        | inl never ↦ absurd (both_ways (not y.deleted) never (not_from_false y.deleted stays))
        | inr shows ↦ inr (and_from (not y.deleted) (not (is_hidden v m y)) (not_from_false y.deleted stays) (not_from_false (is_hidden v m y) shows))
      ]
    ]

pub shown_not_in_flight : (v m : ℕ) (y : Stored) → is_shown v m y ≡ true → is_in_flight v m y ≡ false
shown_not_in_flight v m y h =
    and_right (not y.deleted) (is_hidden v m y) (not-true (is_hidden v m y) (and_parts (not y.deleted) (not (is_hidden v m y)) h).1)

pub deleted_not_in_flight : (v m : ℕ) (y : Stored) → y.deleted ≡ true → is_in_flight v m y ≡ false
deleted_not_in_flight v m y h = and_left (not y.deleted) (is_hidden v m y) (not_from_true y.deleted h)

-- what holds a message back holds back each later one of its group
pub held_back_later : (v m : ℕ) (all : List Stored) (i j : ℕ) (x y : Stored) → j < i → slice_get all j ≡ Some y → same_group y x ≡ true → is_held_back v m (take j all) y ≡ true → is_held_back v m (take i all) x ≡ true
held_back_later v m all i j x y before at group h =
    let found = at_any (blocks v m y) (take j all) h in
    let place = take_at j all found.0 found.1 found.2 in
    let near : found.0 < j = place.0 in
    let by = and_parts (same_group found.1 y) (is_in_flight v m found.1) found.3 in
    let blocking : blocks v m x found.1 ≡ true = and_from (same_group found.1 x) (is_in_flight v m found.1) (is_group-trans found.1.message.group y.message.group x.message.group by.0 group) by.1 in
    let low : found.0 < i = omega arith in
    any_at (blocks v m x) (take i all) found.0 found.1 (at_take i all found.0 found.1 low place.1) blocking

-- the two parts of an eligible message, in a FIFO queue
pub free_of : (q : QueueState) (m i : ℕ) (x : Stored) → q.fifo ≡ true → is_receivable q m (take i q.messages) x ≡ true → is_held_back q.visibility m (take i q.messages) x ≡ false
free_of q m i x fifo h =
    let held = is_held_back q.visibility m (take i q.messages) x in
    elim (and_cases q.fifo held (not-true (q.fifo && held) (and_parts (is_shown q.visibility m x) (not (q.fifo && held)) h).1)) [
      | inl never ↦ absurd (both_ways q.fifo never fifo)
      | inr none ↦ none
    ]

pub shown_of : (q : QueueState) (m i : ℕ) (x : Stored) → is_receivable q m (take i q.messages) x ≡ true → is_shown q.visibility m x ≡ true
shown_of q m i x h = (and_parts (is_shown q.visibility m x) (not (q.fifo && is_held_back q.visibility m (take i q.messages) x)) h).0

-- a message that is shown and, in a FIFO queue, not held back
pub receivable_from : (q : QueueState) (m i : ℕ) (x : Stored) → is_shown q.visibility m x ≡ true → (q.fifo ≡ true → is_held_back q.visibility m (take i q.messages) x ≡ false) → is_receivable q m (take i q.messages) x ≡ true
receivable_from q m i x shown free =
    let held = is_held_back q.visibility m (take i q.messages) x in
    and_from (is_shown q.visibility m x) (not (q.fifo && held)) shown
    (not_from_false (q.fifo && held) (elim (cases_Bool q.fifo) [ inl fifo ↦ and_right q.fifo held (free fifo) | inr never ↦ and_left q.fifo held never ]))

pub eligible_by_group : (q : QueueState) (m i : ℕ) (x : Stored) → stored_at q i ≡ Some x → EligibleByGroup q m i x
eligible_by_group q m i x at =
    let is = eligible_is q m i x at in
    let v = q.visibility in
    let earlier = take i q.messages in
    record {
      shown = λ h. shown_of q m i x (sym is ∙ h);
      earlier = λ h fifo j y before at_j group.
          let free = free_of q m i x fifo (sym is ∙ h) in
          let passes : is_in_flight v m y ≡ false = false_from_ne_true (is_in_flight v m y) (λ flies. both_ways (is_held_back v m earlier x) free (any_at (blocks v m x) earlier j y (at_take i q.messages j y before at_j) (and_from (same_group y x) (is_in_flight v m y) group flies))) in
          elim (in_flight_or_shown v m y passes) [
            | inl deleted ↦ inl deleted
            | inr shown ↦ inr (eligible_is q m j y at_j ∙ receivable_from q m j y shown (λ _. false_from_ne_true (is_held_back v m (take j q.messages) y)
                (λ held. both_ways (is_held_back v m earlier x) free (held_back_later v m q.messages i j x y before at_j group held))))
          ];
      enough = λ shown each. is ∙ receivable_from q m i x shown (λ fifo. false_from_ne_true (is_held_back v m earlier x) (λ held.
          let found = at_any (blocks v m x) earlier held in
          let place = take_at i q.messages found.0 found.1 found.2 in
          let by = and_parts (same_group found.1 x) (is_in_flight v m found.1) found.3 in
          elim (each fifo found.0 found.1 place.0 place.1 by.0) [
            | inl deleted ↦ both_ways (is_in_flight v m found.1) (deleted_not_in_flight v m found.1 deleted) by.1
            | inr eligible ↦ both_ways (is_in_flight v m found.1) (shown_not_in_flight v m found.1 (shown_of q m found.0 found.1 (sym (eligible_is q m found.0 found.1 place.1) ∙ eligible))) by.1
          ]));
    }
