-- Records that are held in slots.
use Rattle.std.proofs.Common.{◌≡◌, ℕ, zero, suc, ◌+◌, ◌<◌, Bool, true, false, not, ◌&&◌, List, [], ◌∷◌, ◌++◌, length, map, set, drop, get_or, refl, sym, ap, ◌∙◌, ◌⊎◌, inl, inr, Option, Some, None, is_some, is_none, arith, append_assoc, length-append}
use Rattle.std.specs.Prelude.{◌==◌, slice_get, if◌then◌else◌}
use Rattle.std.proofs.lemmas.Bool.{cases_Bool, eqb-true, eqb-false, eq-eqb, ne_eqb}
use Rattle.std.proofs.lemmas.List.{drop_more}
use Rattle.esm_model.specs.Records.{Record}
use Rattle.esm_model.specs.declared.entry.Fate.{Fate}
use Rattle.esm_ledger.specs.Slots.{AreSlots}

-- lists

get_pushed : {X : Type 0} (xs : List X) (x : X) (i : ℕ) (y : X) → slice_get (xs ++ x ∷ []) i ≡ Some y → (slice_get xs i ≡ Some y) ⊎ ((i ≡ length xs) × (Some x ≡ Some y))
get_pushed [] x zero y at = inr (refl, at)
get_pushed [] x (suc i) y at = absurd cc
get_pushed (z ∷ xs) x zero y at = inl at
get_pushed (z ∷ xs) x (suc i) y at = elim (get_pushed xs x i y at) [
  | inl old ↦ inl old
  | inr new ↦ inr (ap suc new.0, new.1)
]

get_kept : {X : Type 0} (xs ys : List X) (i : ℕ) (y : X) → slice_get xs i ≡ Some y → slice_get (xs ++ ys) i ≡ Some y
get_kept [] ys i y at = absurd cc
get_kept (x ∷ xs) ys zero y at = at
get_kept (x ∷ xs) ys (suc i) y at = get_kept xs ys i y at

get_last : {X : Type 0} (xs : List X) (x : X) (i : ℕ) → i ≡ length xs → slice_get (xs ++ x ∷ []) i ≡ Some x
get_last [] x zero is = refl
get_last [] x (suc i) is = absurd (omega (arith, is))
get_last (y ∷ xs) x zero is = absurd (omega (arith, is))
get_last (y ∷ xs) x (suc i) is = get_last xs x i (omega (arith, is))

and_not : (a b : Bool) → (b ≡ true → a ≡ false) → a ≡ (a && not b)
and_not false b none = refl
and_not true false none = refl
and_not true true none = absurd (let clash : true ≡ false = none refl in cc)

same_test : (a b x y : ℕ) → (a ≡ b → x ≡ y) → (x ≡ y → a ≡ b) → (a == b) ≡ (x == y)
same_test a b x y to from = elim (cases_Bool (a == b)) [
  | inl is ↦ rw is (sym (eq-eqb x y (to (eqb-true a b is))))
  | inr off ↦ rw off (sym (ne_eqb x y (λ e. eqb-false a b off (from e))))
]

-- one more record

slots_more : (items : List Record) (slots : List (Option Record)) (o : Option Record) (r : Record) → ((q : Record) → o ≡ Some q → r ≡ q) → AreSlots items slots → AreSlots (items ++ r ∷ []) (slots ++ o ∷ [])
slots_more items slots o r same is = record {
  len = (let n = is.len in let a = length-append slots (o ∷ []) in let b = length-append items (r ∷ []) in omega (arith, n, a, b));
  each = λ i q at. elim (get_pushed slots o i (Some q) at) [
    | inl old ↦ get_kept items (r ∷ []) i q (is.each i q old)
    | inr new ↦ (
        let held : o ≡ Some q = cc in
        let n = is.len in
        get_last items r i (omega (arith, n, new.0)) ∙ ap (λ (x : Record). Some x) (same q held))
  ];
}

pub slots_came : (items : List Record) (slots : List (Option Record)) (r : Record) (found : Option Fate) → AreSlots items slots → AreSlots (items ++ r ∷ []) (slots ++ (if is_none found then Some r else None) ∷ [])
slots_came items slots r None is = slots_more items slots (Some r) r (λ q e. cc) is
slots_came items slots r (Some f) is = slots_more items slots None r (λ q e. absurd cc) is

-- of each record that came in turn
pub held_next : (was now all : List Bool) (fates : List (Option Fate)) (at : ℕ) (d : Option Fate) → at < length fates → now ≡ was ++ is_none (get_or fates at d) ∷ []
    → was ++ map is_none (drop at fates) ≡ all → now ++ map is_none (drop (at + 1) fates) ≡ all
held_next was now all fates at d low more so_far =
    ap (λ bs. bs ++ map is_none (drop (at + 1) fates)) more
    ∙ append_assoc was (is_none (get_or fates at d) ∷ []) (map is_none (drop (at + 1) fates))
    ∙ ap (λ (fs : List (Option Fate)). was ++ map is_none fs) (sym (drop_more fates at d low))
    ∙ so_far

-- a slot that is emptied
pub held_emptied : (slots : List (Option Record)) (at i : ℕ) → get_or (map is_some (set slots at None)) i false ≡ (get_or (map is_some slots) i false && not (at == i))
held_emptied [] at i = refl
held_emptied (None ∷ slots) zero zero = refl
held_emptied (Some r ∷ slots) zero zero = refl
held_emptied (o ∷ slots) zero (suc i) = and_not (get_or (map is_some slots) i false) (0 == suc i) (λ is. (let e = eqb-true 0 (suc i) is in absurd (omega (arith, e))))
held_emptied (o ∷ slots) (suc at) zero = and_not (is_some o) (suc at == 0) (λ is. (let e = eqb-true (suc at) 0 is in absurd (omega (arith, e))))
held_emptied (o ∷ slots) (suc at) (suc i) = held_emptied slots at i ∙ ap (λ b. get_or (map is_some slots) i false && not b) (same_test at i (suc at) (suc i) (ap suc) (λ e. omega (arith, e)))

-- a record that is held stands in its slot
pub held_is : (items : List Record) (slots : List (Option Record)) (place : ℕ) → AreSlots items slots → (place < length items → get_or (map is_some slots) place false ≡ true) → get_or slots place None ≡ slice_get items place
held_is items slots place is held = by slots items place is.len is.each held
  where
    by : (xs : List (Option Record)) (rs : List Record) (i : ℕ) → length xs ≡ length rs → ((k : ℕ) (r : Record) → slice_get xs k ≡ Some (Some r) → slice_get rs k ≡ Some r)
        → (i < length rs → get_or (map is_some xs) i false ≡ true) → get_or xs i None ≡ slice_get rs i
    by [] [] i len each full = refl
    by [] (r ∷ rs) i len each full = absurd (omega (arith, len))
    by (x ∷ xs) [] i len each full = absurd (omega (arith, len))
    by (Some q ∷ xs) (r ∷ rs) zero len each full = sym (each 0 q refl)
    by (None ∷ xs) (r ∷ rs) zero len each full = absurd (let clash : false ≡ true = full (omega arith) in cc)
    by (x ∷ xs) (r ∷ rs) (suc i) len each full = by xs rs i (omega (arith, len)) (λ k. each (suc k)) (λ low. full (omega (arith, low)))
