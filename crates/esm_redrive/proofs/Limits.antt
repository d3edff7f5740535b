-- A queue with a limit keeps the moments of the messages that were received as often as they may be.
use Rattle.std.proofs.Common.{◌≡◌, ℕ, zero, suc, ◌+◌, ◌<◌, ◌≤◌, Bool, true, false, not, cond, ◌&&◌, List, [], ◌∷◌, ◌++◌, length, get_or, set, take, refl, sym, ap, ap₂, ◌∙◌, subst, inl, inr, arith, length-append, ◌⊎◌, Option, Some, None}
use Rattle.std.specs.Prelude.{◌==◌, All, IfSome, nat_le, min, is_some, slice_get, slice_index, option_map, unwrap_or, filter}
use Rattle.std.proofs.lemmas.Bool.{cases_Bool, cases_lt, cases_eq, and_parts, and_from, and_right, or_from, or_left, both_ways, not-true, eq-eqb, ne_eqb, leb-true, le-leb, lt-leb, false_from_ne_true, cond-true, cond-false}
use Rattle.std.proofs.lemmas.List.{length-set, take_more}
use Rattle.std.proofs.lemmas.Option.{none-some, same_Some, slice_get_within, slice_get_cases}
use Rattle.esm_model.specs.declared.moment.TheConstants.{MAX_MOMENT}
use Rattle.esm_model.specs.declared.item.Message.{Message}
use Rattle.esm_model.specs.Entries.{holds}
use Rattle.esm_model.specs.Fates.{below}
use Rattle.esm_model.specs.Moment.{moment_after}
use Rattle.esm_queue_model.specs.declared.stored.Stored.{Stored}
use Rattle.esm_queue_model.specs.declared.stored.TheConstants.{MAX_COUNT}
use Rattle.esm_queue_model.specs.Queue.{QueueState, show_after, is_hidden, is_shown, is_in_flight, same_group, is_held_back, is_eligible, eligible, count_at, changed_from, received_once, deleted_once, arrived}
use Rattle.esm_queue_model.proofs.Places.{In, In-here, In-there, In-none, In-filter, filter-In, In-take, In-below, front_closed}
use Rattle.esm_queue_model.proofs.Groups.{at_any, take_at}
use Rattle.esm_queue_model.proofs.EligibleFacts.{eligible_is, eligible_by_group, shown_of, receivable_from}
use Rattle.esm_queue.specs.declared.moment_tree.TheConstants.{NEVER}
use Rattle.esm_queue.specs.Moments.{leaf, IsFirstAt, NoneAt}
use Rattle.esm_queue.proofs.Changing.{holds-other, holds-last, slice_get-changed_from, length-changed_from}
use Rattle.esm_queue.proofs.Leaves.{never_late, leaf_alive, leaf_deleted, leaf_shown, shown_leaf}
use Rattle.esm_queue.proofs.Fronts.{filter_front, filter_next, filter_skip}
use Rattle.esm_model.proofs.Lists.{filter_both}
use Rattle.esm_redrive.specs.Limited.{is_spent, due_in}
use Rattle.esm_redrive.specs.Spent.{spent_leaf, IsWithin, IsAhead, IsLimited}

-- what stands at a place

there : (xs : List Stored) (i : ℕ) → i < length xs → (x : Stored) × (slice_get xs i ≡ Some x)
there xs i low = elim (slice_get_cases xs i).1 [ inl is ↦ (is.0, is.2) | inr past ↦ (let out = past.0 in absurd (omega arith)) ]

count_of : (q : QueueState) (i : ℕ) (x : Stored) → slice_get q.messages i ≡ Some x → count_at q i ≡ x.count
count_of q i x at = ap (λ (o : Option Stored). unwrap_or (option_map (λ (y : Stored). y.count) o) 0) at

eligible_at : (q : QueueState) (m i : ℕ) → In (eligible q m) i → (i < length q.messages) × (is_eligible q m i ≡ true)
eligible_at q m i member =
    let parts = In-filter (is_eligible q m) (below (length q.messages)) i member in
    (In-below (length q.messages) i parts.0, parts.1)

-- due messages

spent_when : (max v : ℕ) (x : Stored) → max ≤ x.count → spent_leaf max v x ≡ leaf v x
spent_when max v x reached = cond-true (nat_le max x.count) (leaf v x) NEVER (le-leb max x.count reached)

spent_not : (max v : ℕ) (x : Stored) → x.count < max → spent_leaf max v x ≡ NEVER
spent_not max v x low = cond-false (nat_le max x.count) (leaf v x) NEVER (lt-leb max x.count low)

-- the moment of a due message has come
pub due_come : (max m i : ℕ) (q : QueueState) (moments : List ℕ) → IsLimited max q.visibility q.fifo q.messages moments → is_eligible q m i ≡ true → is_spent max q i ≡ true → i < length q.messages → slice_index moments i ≤ m
due_come max m i q moments is passes spent low =
    let here = there q.messages i low in
    let x = here.0 in
    let shown = shown_of q m i x (sym (eligible_is q m i x here.1) ∙ passes) in
    let reached : max ≤ x.count = leb-true max x.count (ap (nat_le max) (sym (count_of q i x here.1)) ∙ spent) in
    let moment : slice_index moments i ≡ leaf q.visibility x = is.spent i x here.1 ∙ spent_when max q.visibility x reached in
    let come = leaf_shown q.visibility m x shown in
    omega (arith, moment, come)

-- an earlier message of the group is not in flight where this one was received as often as it may be and shows
not_held : (max m i j : ℕ) (q : QueueState) (moments : List ℕ) (x y : Stored) → IsLimited max q.visibility q.fifo q.messages moments → q.fifo ≡ true → j < i → slice_get q.messages j ≡ Some y → slice_get q.messages i ≡ Some x → same_group y x ≡ true → max ≤ x.count → is_shown q.visibility m x ≡ true → is_in_flight q.visibility m y ≡ true → ⊥
not_held max m i j q moments x y is fifo before at_j at_i group reached shown flies =
    let waits = and_parts (not y.deleted) (is_hidden q.visibility m y) flies in
    let shows = and_parts (not x.deleted) (not (is_hidden q.visibility m x)) shown in
    let ahead = is.order fifo j i y x before at_j at_i group (not-true y.deleted waits.0) (not-true x.deleted shows.0) in
    let most = (is.within j y at_j).most in
    let often = ahead.as_often in
    let same : y.last ≡ x.last = ahead.at_once (omega (arith, most, often, reached)) in
    both_ways (is_hidden q.visibility m x) (not-true (is_hidden q.visibility m x) shows.1) (ap (λ (o : Option ℕ). is_hidden q.visibility m (record x { last = o })) (sym same) ∙ waits.1)

-- a message whose moment has come is due
pub come_due : (max m i : ℕ) (q : QueueState) (moments : List ℕ) → IsLimited max q.visibility q.fifo q.messages moments → m ≤ MAX_MOMENT → i < length q.messages → slice_index moments i ≤ m → (is_eligible q m i ≡ true) × (is_spent max q i ≡ true)
come_due max m i q moments is early low come =
    let here = there q.messages i low in
    let x = here.0 in
    let moment = is.spent i x here.1 in
    let late = never_late in
    elim (cases_lt x.count max) [
      | inl few ↦ (let never = spent_not max q.visibility x few in absurd (omega (arith, moment, never, late)))
      | inr reached ↦
          (let own = spent_when max q.visibility x reached in
          let shown : is_shown q.visibility m x ≡ true = shown_leaf q.visibility m x early (omega (arith, moment, own)) in (
            eligible_is q m i x here.1 ∙ receivable_from q m i x shown (λ fifo. false_from_ne_true (is_held_back q.visibility m (take i q.messages) x) (λ held.
                let found = at_any (λ (y : Stored). same_group y x && is_in_flight q.visibility m y) (take i q.messages) held in
                let place = take_at i q.messages found.0 found.1 found.2 in
                let by = and_parts (same_group found.1 x) (is_in_flight q.visibility m found.1) found.3 in
                not_held max m i found.0 q moments x found.1 is fifo place.0 place.1 here.1 by.0 reached shown by.1)),
            ap (nat_le max) (count_of q i x here.1) ∙ le-leb max x.count reached,
          ))
    ]

abbrev is_due : ℕ → ℕ → QueueState → ℕ → Bool
is_due max m q i = is_eligible q m i && is_spent max q i

due_is : (max m : ℕ) (q : QueueState) → due_in max q m ≡ filter (is_due max m q) (below (length q.messages))
due_is max m q = sym (filter_both (is_eligible q m) (is_spent max q) (below (length q.messages)))

not_due : (max m i : ℕ) (q : QueueState) (moments : List ℕ) → IsLimited max q.visibility q.fifo q.messages moments → i < length q.messages → m < slice_index moments i → is_due max m q i ≡ false
not_due max m i q moments is low late = false_from_ne_true (is_due max m q i) (λ due.
    let parts = and_parts (is_eligible q m i) (is_spent max q i) due in
    let come = due_come max m i q moments is parts.0 parts.1 low in
    omega (arith, come, late))

pub none_due : (max m : ℕ) (q : QueueState) (moments : List ℕ) → IsLimited max q.visibility q.fifo q.messages moments → NoneAt moments 0 m → due_in max q m ≡ []
none_due max m q moments is none =
    let sized = is.sized in
    due_is max m q ∙ filter_skip (is_due max m q) 0 (length q.messages) (omega arith) (λ i low high. not_due max m i q moments is high (none i low (omega (arith, sized, high))))

pub first_is_due : (max m place : ℕ) (q : QueueState) (moments : List ℕ) → IsLimited max q.visibility q.fifo q.messages moments → m ≤ MAX_MOMENT → IsFirstAt moments 0 m place → slice_get (due_in max q m) 0 ≡ Some place
first_is_due max m place q moments is early first =
    let sized = is.sized in
    let within = first.within in
    let low : place < length q.messages = omega (arith, sized, within) in
    let come = come_due max m place q moments is early low first.reached in
    let here : is_due max m q place ≡ true = and_from (is_eligible q m place) (is_spent max q place) come.0 come.1 in
    let none = λ (i : ℕ) (from : 0 ≤ i) (high : i < place). not_due max m i q moments is (omega (arith, low, high)) (first.first i from high) in
    let front : filter (is_due max m q) (below (place + 1)) ≡ place ∷ [] = filter_next (is_due max m q) 0 place (omega arith) none here in
    let whole = filter_front (is_due max m q) (place + 1) (length q.messages) (omega (arith, low)) in
    ap (λ (xs : List ℕ). slice_get xs 0) (due_is max m q ∙ (whole.1 ∙ ap (λ (xs : List ℕ). xs ++ whole.0) front))

-- a queue without messages

pub limited_empty : (max v : ℕ) (fifo : Bool) → IsLimited max v fifo [] []
limited_empty max v fifo = record {
  sized = refl;
  spent = λ i x at. absurd (none-some x at);
  within = λ i x at. absurd (none-some x at);
  order = λ is i j x y before at_i. absurd (none-some x at_i);
}

-- a message comes

put_last : (xs : List Stored) (x : Stored) (i : ℕ) (y : Stored) → slice_get (xs ++ x ∷ []) i ≡ Some y → ((i < length xs) × (slice_get xs i ≡ Some y)) ⊎ ((i ≡ length xs) × (x ≡ y))
put_last [] x zero y at = inr (refl, same_Some x y at)
put_last [] x (suc i) y at = absurd (none-some y at)
put_last (z ∷ xs) x zero y at = inl (omega arith, at)
put_last (z ∷ xs) x (suc i) y at = elim (put_last xs x i y at) [ inl before ↦ inl (let low = before.0 in omega (arith, low), before.1) | inr last ↦ inr (ap suc last.0, last.1) ]

index_left : (ms : List ℕ) (m i : ℕ) → i < length ms → slice_index (ms ++ m ∷ []) i ≡ slice_index ms i
index_left [] m i low = absurd (omega arith)
index_left (n ∷ ms) m zero low = refl
index_left (n ∷ ms) m (suc i) low = index_left ms m i (omega arith)

index_last : (ms : List ℕ) (m : ℕ) → slice_index (ms ++ m ∷ []) (length ms) ≡ m
index_last [] m = refl
index_last (n ∷ ms) m = index_last ms m

pub limited_came : (max v : ℕ) (fifo : Bool) (xs : List Stored) (moments : List ℕ) (message : Message) (m : ℕ) → 1 ≤ max → IsLimited max v fifo xs moments → IsLimited max v fifo (xs ++ arrived message m ∷ []) (moments ++ NEVER ∷ [])
limited_came max v fifo xs moments message m some is =
    let sized = is.sized in
    let new : Stored = arrived message m in
    record {
      sized = (let a : length (moments ++ NEVER ∷ []) ≡ length moments + 1 = length-append moments (NEVER ∷ []) in let b : length (xs ++ new ∷ []) ≡ length xs + 1 = length-append xs (new ∷ []) in omega (arith, sized, a, b));
      spent = λ i x at. elim (put_last xs new i x at) [
        | inl before ↦ (let low = before.0 in index_left moments NEVER i (omega (arith, sized, low)) ∙ is.spent i x before.1)
        | inr last ↦
            (ap (slice_index (moments ++ NEVER ∷ [])) (last.0 ∙ sym sized) ∙ (index_last moments NEVER
            ∙ (sym (spent_not max v new (omega (arith, some))) ∙ ap (spent_leaf max v) last.1)))
      ];
      within = λ i x at. elim (put_last xs new i x at) [
        | inl before ↦ is.within i x before.1
        | inr last ↦ subst (IsWithin max) last.1 (record { most = omega arith; never = λ none. refl })
      ];
      order = λ is_fifo i j x y before at_i at_j group waits_i waits_j. elim (put_last xs new j y at_j) [
        | inl earlier ↦ (elim (put_last xs new i x at_i) [
          | inl own ↦ is.order is_fifo i j x y before own.1 earlier.1 group waits_i waits_j
          | inr last ↦ (let e = last.0 in let low = earlier.0 in absurd (omega (arith, e, low, before)))
        ])
        | inr last ↦ (elim (put_last xs new i x at_i) [
          | inl own ↦ subst (IsAhead x) last.1 (record { as_often = omega arith; at_once = λ none. (is.within i x own.1).never (sym none) })
          | inr own ↦ (let e = own.0 in let n = last.0 in absurd (omega (arith, e, n, before)))
        ])
      ];
    }

-- messages are changed at some places

was_at : (f : Stored → Stored) (places : List ℕ) (p o : Option Stored) (i : ℕ) (y : Stored) → p ≡ o → option_map (λ (x : Stored). cond (holds places (0 + i)) (f x) x) o ≡ Some y → (x : Stored) × (p ≡ Some x) × (y ≡ cond (holds places i) (f x) x)
was_at f places p None i y is e = absurd (none-some y e)
was_at f places p (Some x) i y is e =
    let zero_first : 0 + i ≡ i = omega arith in
    (x, is, sym (same_Some (cond (holds places (0 + i)) (f x) x) y e) ∙ ap (λ (k : ℕ). cond (holds places k) (f x) x) zero_first)

changed_at : (f : Stored → Stored) (places : List ℕ) (xs : List Stored) (i : ℕ) (y : Stored) → slice_get (changed_from f places 0 xs) i ≡ Some y → (x : Stored) × (slice_get xs i ≡ Some x) × (y ≡ cond (holds places i) (f x) x)
changed_at f places xs i y at = was_at f places (slice_get xs i) (slice_get xs i) i y refl (sym (slice_get-changed_from f places 0 xs i) ∙ at)

-- a message is deleted

spent_deleted : (max v : ℕ) (x : Stored) → x.deleted ≡ true → spent_leaf max v x ≡ NEVER
spent_deleted max v x deleted = elim (cases_Bool (nat_le max x.count)) [ inl is ↦ rw is (leaf_deleted v x deleted) | inr less ↦ rw less refl ]

after_deleting : (b : Bool) (max : ℕ) (x : Stored) → IsWithin max x → IsWithin max (cond b (deleted_once x) x)
after_deleting true max x is = record { most = is.most; never = is.never }
after_deleting false max x is = is

kept_alive : (b : Bool) (x y : Stored) → y ≡ cond b (deleted_once x) x → y.deleted ≡ false → y ≡ x
kept_alive true x y is waits = absurd (both_ways true (sym (ap (λ (z : Stored). z.deleted) is) ∙ waits) refl)
kept_alive false x y is waits = is

index_same : (ms : List ℕ) (p i m : ℕ) → p ≡ i → p < length ms → slice_index (set ms p m) i ≡ m
index_same [] p i m same low = absurd (omega arith)
index_same (n ∷ ms) zero zero m same low = refl
index_same (n ∷ ms) zero (suc i) m same low = absurd (omega arith)
index_same (n ∷ ms) (suc p) zero m same low = absurd (omega arith)
index_same (n ∷ ms) (suc p) (suc i) m same low = index_same ms p i m (omega arith) (omega arith)

index_other : (ms : List ℕ) (p i m : ℕ) → (p ≡ i → ⊥) → slice_index (set ms p m) i ≡ slice_index ms i
index_other [] p i m other = refl
index_other (n ∷ ms) zero zero m other = absurd (other refl)
index_other (n ∷ ms) zero (suc i) m other = refl
index_other (n ∷ ms) (suc p) zero m other = refl
index_other (n ∷ ms) (suc p) (suc i) m other = index_other ms p i m (λ e. other (ap suc e))

one_here : (p i : ℕ) → p ≡ i → holds (p ∷ []) i ≡ true
one_here p i same = or_left (p == i) false (eq-eqb p i same)

one_elsewhere : (p i : ℕ) → (p ≡ i → ⊥) → holds (p ∷ []) i ≡ false
one_elsewhere p i other = or_from (p == i) false (ne_eqb p i other) refl

pub limited_deleted : (max v p : ℕ) (fifo : Bool) (xs : List Stored) (moments : List ℕ) → p < length xs → IsLimited max v fifo xs moments → IsLimited max v fifo (changed_from deleted_once (p ∷ []) 0 xs) (set moments p NEVER)
limited_deleted max v p fifo xs moments low is =
    let sized = is.sized in
    record {
      sized = length-set moments p NEVER ∙ (sized ∙ sym (length-changed_from deleted_once (p ∷ []) 0 xs));
      spent = λ i y at.
          let was = changed_at deleted_once (p ∷ []) xs i y at in
          elim (cases_eq p i) [
            | inl same ↦
                (let gone : y ≡ deleted_once was.0 = was.2 ∙ cond-true (holds (p ∷ []) i) (deleted_once was.0) was.0 (one_here p i same) in
                index_same moments p i NEVER same (omega (arith, sized, low)) ∙ sym (spent_deleted max v y (ap (λ (z : Stored). z.deleted) gone)))
            | inr other ↦
                (let stays : y ≡ was.0 = was.2 ∙ cond-false (holds (p ∷ []) i) (deleted_once was.0) was.0 (one_elsewhere p i other) in
                index_other moments p i NEVER other ∙ (is.spent i was.0 was.1 ∙ ap (spent_leaf max v) (sym stays)))
          ];
      within = λ i y at.
          let was = changed_at deleted_once (p ∷ []) xs i y at in
          subst (IsWithin max) (sym was.2) (after_deleting (holds (p ∷ []) i) max was.0 (is.within i was.0 was.1));
      order = λ is_fifo i j x y before at_i at_j group waits_i waits_j.
          let first = changed_at deleted_once (p ∷ []) xs i x at_i in
          let second = changed_at deleted_once (p ∷ []) xs j y at_j in
          let one : x ≡ first.0 = kept_alive (holds (p ∷ []) i) first.0 x first.2 waits_i in
          let other : y ≡ second.0 = kept_alive (holds (p ∷ []) j) second.0 y second.2 waits_j in
          is.order is_fifo i j x y before (first.1 ∙ ap Some (sym one)) (second.1 ∙ ap Some (sym other)) group waits_i waits_j;
    }

-- messages are received

-- the places are the first eligible ones, and none of them is due
pub record IsReceipt (max m : ℕ) (q : QueueState) (places : List ℕ) : Type 0 where
  pub count : ℕ
  pub first : places ≡ take count (eligible q m)
  pub none_due : due_in max q m ≡ []
  pub low : max < MAX_COUNT

called : (max m i : ℕ) (q : QueueState) (places : List ℕ) → IsReceipt max m q places → In places i → In (eligible q m) i
called max m i q places is member = In-take is.count (eligible q m) i (subst (λ ps. In ps i) is.first member)

called_few : (max m i : ℕ) (q : QueueState) (places : List ℕ) (x : Stored) → IsReceipt max m q places → In places i → slice_get q.messages i ≡ Some x → x.count < max
called_few max m i q places x is member at =
    elim (cases_lt x.count max) [
      | inl few ↦ few
      | inr reached ↦
          (let spent : is_spent max q i ≡ true = ap (nat_le max) (count_of q i x at) ∙ le-leb max x.count reached in
          absurd (In-none i (subst (λ ps. In ps i) is.none_due (filter-In (is_spent max q) (eligible q m) i (called max m i q places is member) spent))))
    ]

called_waits : (max m i : ℕ) (q : QueueState) (places : List ℕ) (x : Stored) → IsReceipt max m q places → In places i → slice_get q.messages i ≡ Some x → x.deleted ≡ false
called_waits max m i q places x is member at =
    let passes = (eligible_at q m i (called max m i q places is member)).1 in
    let shown = shown_of q m i x (sym (eligible_is q m i x at) ∙ passes) in
    not-true x.deleted (and_parts (not x.deleted) (not (is_hidden q.visibility m x)) shown).0

-- with a later message of its group an earlier one is received
called_before : (max m i j : ℕ) (q : QueueState) (places : List ℕ) (x y : Stored) → IsReceipt max m q places → q.fifo ≡ true → i < j → slice_get q.messages i ≡ Some x → slice_get q.messages j ≡ Some y → same_group x y ≡ true → x.deleted ≡ false → In places j → In places i
called_before max m i j q places x y is fifo before at_i at_j group waits member =
    let n = length q.messages in
    let here : In (take is.count (eligible q m)) j = subst (λ ps. In ps j) is.first member in
    let passes = (eligible_at q m j (In-take is.count (eligible q m) j here)).1 in
    let own : is_eligible q m i ≡ true = elim ((eligible_by_group q m j y at_j).earlier passes fifo i x before at_i group) [
      | inl deleted ↦ absurd (both_ways x.deleted waits deleted)
      | inr shows ↦ shows
    ] in
    subst (λ ps. In ps i) (sym is.first) (front_closed (is_eligible q m) n is.count j i here before own)

count_more : (max n : ℕ) → max < MAX_COUNT → n < max → min (n + 1) MAX_COUNT ≡ n + 1
count_more max n low few = omega arith

spent_received : (b : Bool) (max m v n : ℕ) (x y : Stored) → y ≡ received_once m x → x.deleted ≡ false → n ≡ spent_leaf max v x → x.count < max → nat_le max y.count ≡ b → cond b (moment_after m v) n ≡ cond b (leaf v y) NEVER
spent_received true max m v n x y is waits was few reached = sym (leaf_alive v y (ap (λ (z : Stored). z.deleted) is ∙ waits) ∙ ap (λ (z : Stored). show_after v z.last) is)
spent_received false max m v n x y is waits was few reached = was ∙ spent_not max v x few

-- either both are received, or the earlier one, or neither
ahead_after : (a b : Bool) (max m : ℕ) (x y : Stored) → IsAhead x y → (b ≡ true → a ≡ true) → (a ≡ true → x.count < max) → (b ≡ true → y.count < max) → max < MAX_COUNT → IsAhead (cond a (received_once m x) x) (cond b (received_once m y) y)
ahead_after true true max m x y is both few_x few_y low =
    let one : min (x.count + 1) MAX_COUNT ≡ x.count + 1 = count_more max x.count low (few_x refl) in
    let two : min (y.count + 1) MAX_COUNT ≡ y.count + 1 = count_more max y.count low (few_y refl) in
    let often = is.as_often in
    record { as_often = omega (arith, one, two, often); at_once = λ same. refl }
ahead_after true false max m x y is both few_x few_y low =
    let one : min (x.count + 1) MAX_COUNT ≡ x.count + 1 = count_more max x.count low (few_x refl) in
    let often = is.as_often in
    record { as_often = omega (arith, one, often); at_once = λ same. absurd (omega (arith, one, often, same)) }
ahead_after false true max m x y is both few_x few_y low = absurd (both_ways false refl (both refl))
ahead_after false false max m x y is both few_x few_y low = is

within_after : (b : Bool) (max m : ℕ) (x : Stored) → IsWithin max x → (b ≡ true → x.count < max) → max < MAX_COUNT → IsWithin max (cond b (received_once m x) x)
within_after true max m x is few low =
    let one : min (x.count + 1) MAX_COUNT ≡ x.count + 1 = count_more max x.count low (few refl) in
    let below_max = few refl in
    record { most = omega (arith, one, below_max); never = λ none. absurd (omega (arith, one, none)) }
within_after false max m x is few low = is

-- the moments after a receipt
abbrev pub AreMarked : ℕ → ℕ → QueueState → List ℕ → List ℕ → List ℕ → Type 0
AreMarked max m after places moments new = (i : ℕ) → i < length moments → slice_index new i ≡ cond (holds places i && is_spent max after i) (moment_after m after.visibility) (slice_index moments i)

group_stays : (a b : Bool) (m : ℕ) (x y : Stored) → same_group (cond a (received_once m x) x) (cond b (received_once m y) y) ≡ same_group x y
group_stays true true m x y = refl
group_stays true false m x y = refl
group_stays false true m x y = refl
group_stays false false m x y = refl

waits_stays : (b : Bool) (m : ℕ) (x : Stored) → (cond b (received_once m x) x).deleted ≡ x.deleted
waits_stays true m x = refl
waits_stays false m x = refl

pub limited_received : (max m : ℕ) (q : QueueState) (places moments new : List ℕ) → IsReceipt max m q places → IsLimited max q.visibility q.fifo q.messages moments → length new ≡ length moments
    → AreMarked max m (record q { messages = changed_from (received_once m) places 0 q.messages }) places moments new
    → IsLimited max q.visibility q.fifo (changed_from (received_once m) places 0 q.messages) new
limited_received max m q places moments new receipt is size marked =
    let f = received_once m in
    let xs = q.messages in
    let after = changed_from f places 0 xs in
    let v = q.visibility in
    let sized = is.sized in
    record {
      sized = size ∙ (sized ∙ sym (length-changed_from f places 0 xs));
      spent = λ i y at.
          let was = changed_at f places xs i y at in
          let x = was.0 in
          let low : i < length xs = slice_get_within xs i x was.1 in
          let mark = marked i (omega (arith, sized, low)) in
          let count : is_spent max (record q { messages = after }) i ≡ nat_le max y.count = ap (nat_le max) (count_of (record q { messages = after }) i y at) in
          elim (cases_Bool (holds places i)) [
            | inl received ↦
                (let now : y ≡ f x = was.2 ∙ cond-true (holds places i) (f x) x received in
                mark ∙ (ap₂ (λ (a b : Bool). cond (a && b) (moment_after m v) (slice_index moments i)) received count
                ∙ spent_received (nat_le max y.count) max m v (slice_index moments i) x y now (called_waits max m i q places x receipt received was.1) (is.spent i x was.1) (called_few max m i q places x receipt received was.1) refl))
            | inr other ↦
                (let stays : y ≡ x = was.2 ∙ cond-false (holds places i) (f x) x other in
                mark ∙ (ap (λ (a : Bool). cond (a && is_spent max (record q { messages = after }) i) (moment_after m v) (slice_index moments i)) other
                ∙ (is.spent i x was.1 ∙ ap (spent_leaf max v) (sym stays))))
          ];
      within = λ i y at.
          let was = changed_at f places xs i y at in
          subst (IsWithin max) (sym was.2) (within_after (holds places i) max m was.0 (is.within i was.0 was.1) (λ received. called_few max m i q places was.0 receipt received was.1) receipt.low);
      order = λ fifo i j x y before at_i at_j group waits_i waits_j.
          let first = changed_at f places xs i x at_i in
          let second = changed_at f places xs j y at_j in
          let same : same_group first.0 second.0 ≡ true = sym (group_stays (holds places i) (holds places j) m first.0 second.0) ∙ (sym (ap₂ (λ (a b : Stored). same_group a b) first.2 second.2) ∙ group) in
          let one : first.0.deleted ≡ false = sym (waits_stays (holds places i) m first.0) ∙ (sym (ap (λ (z : Stored). z.deleted) first.2) ∙ waits_i) in
          let two : second.0.deleted ≡ false = sym (waits_stays (holds places j) m second.0) ∙ (sym (ap (λ (z : Stored). z.deleted) second.2) ∙ waits_j) in
          let ahead = is.order fifo i j first.0 second.0 before first.1 second.1 same one two in
          subst (λ (a : Stored). IsAhead a y) (sym first.2) (subst (λ (b : Stored). IsAhead (cond (holds places i) (f first.0) first.0) b) (sym second.2)
          (ahead_after (holds places i) (holds places j) max m first.0 second.0 ahead
          (called_before max m i j q places first.0 second.0 receipt fifo before first.1 second.1 same one)
          (λ received. called_few max m i q places first.0 receipt received first.1)
          (λ received. called_few max m j q places second.0 receipt received second.1)
          receipt.low));
    }

-- one more of the places is marked
pub marked_more : (max show n : ℕ) (q : QueueState) (places init old new : List ℕ) → n < length places → get_or places n 0 < length init → length old ≡ length init
    → ((i : ℕ) → i < length init → slice_index old i ≡ cond (holds (take n places) i && is_spent max q i) show (slice_index init i))
    → new ≡ cond (is_spent max q (get_or places n 0)) (set old (get_or places n 0) show) old
    → (i : ℕ) → i < length init → slice_index new i ≡ cond (holds (take (n + 1) places) i && is_spent max q i) show (slice_index init i)
marked_more max show n q places init old new within low sized before now i inside =
    let p = get_or places n 0 in
    let more : take (n + 1) places ≡ take n places ++ p ∷ [] = take_more places n 0 within in
    elim (cases_eq p i) [
      | inl same ↦
          (let member : holds (take (n + 1) places) i ≡ true = ap (λ (ps : List ℕ). holds ps i) more ∙ (ap (holds (take n places ++ p ∷ [])) (sym same) ∙ holds-last (take n places) p) in
          elim (cases_Bool (is_spent max q i)) [
            | inl spent ↦
                (let set_is : new ≡ set old p show = now ∙ cond-true (is_spent max q p) (set old p show) old (ap (is_spent max q) same ∙ spent) in
                ap (λ (ms : List ℕ). slice_index ms i) set_is ∙ (index_same old p i show same (omega (arith, sized, low))
                ∙ sym (ap₂ (λ (a b : Bool). cond (a && b) show (slice_index init i)) member spent)))
            | inr less ↦
                (let stays : new ≡ old = now ∙ cond-false (is_spent max q p) (set old p show) old (ap (is_spent max q) same ∙ less) in
                ap (λ (ms : List ℕ). slice_index ms i) stays ∙ (before i inside
                ∙ (ap (λ (b : Bool). cond (holds (take n places) i && b) show (slice_index init i)) less
                ∙ (cond-false (holds (take n places) i && false) show (slice_index init i) (and_right (holds (take n places) i) false refl)
                ∙ sym (ap₂ (λ (a b : Bool). cond (a && b) show (slice_index init i)) member less)))))
          ])
      | inr other ↦
          (let same : holds (take (n + 1) places) i ≡ holds (take n places) i = ap (λ (ps : List ℕ). holds ps i) more ∙ holds-other (take n places) p i other in
          let kept : slice_index new i ≡ slice_index old i = elim (cases_Bool (is_spent max q p)) [
            | inl spent ↦ ap (λ (ms : List ℕ). slice_index ms i) (now ∙ cond-true (is_spent max q p) (set old p show) old spent) ∙ index_other old p i show other
            | inr less ↦ ap (λ (ms : List ℕ). slice_index ms i) (now ∙ cond-false (is_spent max q p) (set old p show) old less)
          ] in
          kept ∙ (before i inside ∙ sym (ap (λ (a : Bool). cond (a && is_spent max q i) show (slice_index init i)) same)))
    ]

-- a fact of each member
pub all_of : (P : ℕ → Type 0) (xs : List ℕ) → ((i : ℕ) → In xs i → P i) → All P xs
all_of P [] each k d within = absurd (omega arith)
all_of P (x ∷ xs) each zero d within = each x (In-here x xs x refl)
all_of P (x ∷ xs) each (suc k) d within = all_of P xs (λ i member. each i (In-there x xs i member)) k d (omega arith)

pub sized_more : (b : Bool) (p show : ℕ) (old new : List ℕ) → new ≡ cond b (set old p show) old → length new ≡ length old
sized_more true p show old new is = ap length is ∙ length-set old p show
sized_more false p show old new is = ap length is

-- what is kept of a queue, by its state

pub limited_by : (max : ℕ) (q q' : QueueState) (moments moments' : List ℕ) → q' ≡ q → moments' ≡ moments → IsLimited max q.visibility q.fifo q.messages moments → IsLimited max q'.visibility q'.fifo q'.messages moments'
limited_by max q q' moments moments' same equal is =
    subst (λ (r : QueueState). IsLimited max r.visibility r.fifo r.messages moments') (sym same) (subst (IsLimited max q.visibility q.fifo q.messages) (sym equal) is)

pub first_found : (max m : ℕ) (q : QueueState) (moments : List ℕ) (r : Option ℕ) → IsLimited max q.visibility q.fifo q.messages moments → m ≤ MAX_MOMENT → (is_some r ≡ false → NoneAt moments 0 m) → IfSome r (IsFirstAt moments 0 m) → r ≡ slice_get (due_in max q m) 0
first_found max m q moments None is early none some = sym (ap (λ (xs : List ℕ). slice_get xs 0) (none_due max m q moments is (none refl)))
first_found max m q moments (Some place) is early none some = sym (first_is_due max m place q moments is early some)
