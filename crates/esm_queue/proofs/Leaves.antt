-- The moments at which messages show.
use Rattle.std.proofs.Common.{◌≡◌, ℕ, zero, suc, ◌<◌, ◌≤◌, true, false, not, List, [], ◌∷◌, length, get_or, set, take, map, refl, sym, ap, ap₂, ◌∙◌, inl, inr, arith, Option, Some, None}
use Rattle.std.specs.Prelude.{◌==◌, filter, nat_lt, slice_index, slice_get, option_map, unwrap_or}
use Rattle.std.proofs.lemmas.List.{map-set}
use Rattle.std.proofs.lemmas.Bool.{cases_Bool, or_left, or_right, eq-eqb, cond-true, cond-false, le-ltb, lt-ltb, and_left, and_from, ltb-false, both_ways, not_from_true, not_from_false, or_cases, and_parts, not-true}
use Rattle.std.proofs.lemmas.Option.{none-some, same_Some}
use Rattle.esm_model.specs.declared.moment.TheConstants.{MAX_MOMENT}
use Rattle.esm_model.specs.Moment.{moment_after}
use Rattle.esm_model.specs.Entries.{holds}
use Rattle.esm_model.specs.Fates.{below}
use Rattle.esm_queue_model.specs.declared.stored.Stored.{Stored}
use Rattle.esm_queue_model.specs.Queue.{QueueState, show_after, is_hidden, is_shown, is_in_flight, is_receivable, is_eligible, received_once, receivable}
use Rattle.esm_queue.specs.declared.moment_tree.TheConstants.{NEVER}
use Rattle.esm_queue.specs.Moments.{leaf, leaves, is_after, AreAlive}
use Rattle.esm_queue.proofs.Counting.{filter_holds}

pub show_low : (v : ℕ) (o : Option ℕ) → show_after v o ≤ MAX_MOMENT
show_low v None = omega arith
show_low v (Some m) = omega arith

pub never_late : MAX_MOMENT < NEVER
never_late = omega arith

pub leaf_alive : (v : ℕ) (x : Stored) → x.deleted ≡ false → leaf v x ≡ show_after v x.last
leaf_alive v x alive = cond-false x.deleted NEVER (show_after v x.last) alive

pub leaf_deleted : (v : ℕ) (x : Stored) → x.deleted ≡ true → leaf v x ≡ NEVER
leaf_deleted v x deleted = cond-true x.deleted NEVER (show_after v x.last) deleted

-- a receipt of a message that is not deleted
pub leaves_marked : (v m : ℕ) (messages : List Stored) (p : ℕ) (d new : Stored) → (get_or messages p d).deleted ≡ false → new ≡ received_once m (get_or messages p d) → set (leaves v messages) p (moment_after m v) ≡ leaves v (set messages p new)
leaves_marked v m messages p d new alive is =
    let x = get_or messages p d in
    let shows : leaf v new ≡ moment_after m v = ap (leaf v) is ∙ cond-false x.deleted NEVER (moment_after m v) alive in
    ap (λ n. set (leaves v messages) p n) (sym shows) ∙ sym (map-set (leaf v) messages p new)

-- a number that stands in a list
pub holds_at : (xs : List ℕ) (i : ℕ) → i < length xs → holds xs (get_or xs i 0) ≡ true
holds_at [] i within = absurd (omega arith)
holds_at (x ∷ xs) zero within = or_left (x == x) (holds xs x) (eq-eqb x x refl)
holds_at (x ∷ xs) (suc i) within = or_right (x == get_or xs i 0) (holds xs (get_or xs i 0)) (holds_at xs i (omega arith))

-- the moments after another at which messages show
pub shows_are : (v m : ℕ) (xs : List Stored) → filter (is_after m) (leaves v xs) ≡ map (λ (x : Stored). show_after v x.last) (filter (is_in_flight v m) xs)
shows_are v m [] = refl
shows_are v m (x ∷ xs) =
    let rest = shows_are v m xs in
    elim (cases_Bool x.deleted) [
      | inl deleted ↦
          (let leaf_is = leaf_deleted v x deleted in
          let late : is_after m (leaf v x) ≡ false = ap (is_after m) leaf_is ∙ never_after m in
          let still : is_in_flight v m x ≡ false = and_left (not x.deleted) (is_hidden v m x) (not_from_true x.deleted deleted) in
          rw (late, still) rest)
      | inr alive ↦
          (let s = show_after v x.last in
          let leaf_is : leaf v x ≡ s = leaf_alive v x alive in
          let low : s < NEVER = (let a = show_low v x.last in let b = never_late in omega arith) in
          let waits : not x.deleted ≡ true = not_from_false x.deleted alive in
          elim (cases_Bool (nat_lt m s)) [
            | inl hidden ↦
                (let after : is_after m (leaf v x) ≡ true = ap (is_after m) leaf_is ∙ rw (hidden, lt-ltb s NEVER low) refl in
                let flies : is_in_flight v m x ≡ true = rw (waits, hidden) refl in
                rw (after, flies) (ap₂ (λ (n : ℕ) (ns : List ℕ). n ∷ ns) leaf_is rest))
            | inr shown ↦
                (let after : is_after m (leaf v x) ≡ false = ap (is_after m) leaf_is ∙ rw shown refl in
                let flies : is_in_flight v m x ≡ false = rw (waits, shown) refl in
                rw (after, flies) rest)
          ])
    ]
  where
    never_after : (m : ℕ) → is_after m NEVER ≡ false
    never_after m = elim (cases_Bool (nat_lt m NEVER)) [ inl is ↦ rw is refl | inr not' ↦ rw not' refl ]

pub leaf_at : (v : ℕ) (xs : List Stored) (i : ℕ) (x : Stored) → slice_get xs i ≡ Some x → slice_index (leaves v xs) i ≡ leaf v x
leaf_at v [] i x at = absurd (none-some x at)
leaf_at v (y ∷ xs) zero x at = ap (leaf v) (same_Some y x at)
leaf_at v (y ∷ xs) (suc i) x at = leaf_at v xs i x at

-- the moment of a message has come where it is shown

pub leaf_shown : (v m : ℕ) (x : Stored) → is_shown v m x ≡ true → leaf v x ≤ m
leaf_shown v m x shown =
    let parts = and_parts (not x.deleted) (not (is_hidden v m x)) shown in
    let e = leaf_alive v x (not-true x.deleted parts.0) in
    let low : show_after v x.last ≤ m = ltb-false m (show_after v x.last) (not-true (is_hidden v m x) parts.1) in
    omega arith

pub shown_leaf : (v m : ℕ) (x : Stored) → m ≤ MAX_MOMENT → leaf v x ≤ m → is_shown v m x ≡ true
shown_leaf v m x early come =
    elim (cases_Bool x.deleted) [
      | inl deleted ↦ (let e = leaf_deleted v x deleted in let late = never_late in absurd (omega arith))
      | inr alive ↦ (let e = leaf_alive v x alive in and_from (not x.deleted) (not (is_hidden v m x)) (not_from_false x.deleted alive) (not_from_false (is_hidden v m x) (le-ltb m (show_after v x.last) (omega arith))))
    ]

-- what may be received is not deleted

holds_take : (k : ℕ) (xs : List ℕ) (i : ℕ) → holds (take k xs) i ≡ true → holds xs i ≡ true
holds_take zero xs i h = absurd (both_ways false refl h)
holds_take (suc k) [] i h = h
holds_take (suc k) (x ∷ xs) i h = elim (or_cases (x == i) (holds (take k xs) i) h) [ inl here ↦ or_left (x == i) (holds xs i) here | inr there ↦ or_right (x == i) (holds xs i) (holds_take k xs i there) ]

pub receivable_alive : (q : QueueState) (m max : ℕ) → AreAlive q.messages (receivable q m max)
receivable_alive q m max i x member at =
    let passes : is_eligible q m i ≡ true = (filter_holds (is_eligible q m) (below (length q.messages)) i (holds_take max (filter (is_eligible q m) (below (length q.messages))) i member)).1 in
    let here : is_receivable q m (take i q.messages) x ≡ true = sym (ap (λ (o : Option Stored). unwrap_or (option_map (is_receivable q m (take i q.messages)) o) false) at) ∙ passes in
    let shown = (and_parts _ _ here).0 in
    not-true x.deleted (and_parts _ _ shown).0
