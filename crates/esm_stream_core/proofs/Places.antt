-- The places that the filter refuses, among records that come.
use Rattle.std.proofs.Common.{◌≡◌, ◌≢◌, ℕ, zero, suc, ◌+◌, ◌-◌, ◌<◌, ◌≤◌, Bool, true, false, not, ◌||◌, ◌&&◌, List, [], ◌∷◌, length, take, get_or, set, refl, sym, ap, ap₂, ◌∙◌, inl, inr, arith, Option, Some, None}
use Rattle.std.specs.Prelude.{◌==◌, All, is_none, slice_get}
use Rattle.std.specs.List.{AllByRecursion}
use Rattle.std.proofs.Math.Seq.{take-suc}
use Rattle.std.proofs.lemmas.Bool.{cases_Bool, eq-eqb, eqb-true, false_from_ne_true}
use Rattle.std.proofs.lemmas.Option.{slice_get_within}
use Rattle.std.proofs.lemmas.List.{get_or-set_other}
use Rattle.std.proofs.lemmas.List.Elements.{All-from_recursion}
use Rattle.std.proofs.lemmas.List.Folds.{list_any-append}
use Rattle.std.proofs.lemmas.Grind.{get_or-set_at}
use Rattle.esm_model.specs.Records.{Record}
use Rattle.esm_model.specs.declared.setup.FoundFate.{FoundFate}
use Rattle.esm_model.specs.Setting.{Setting, found_fate}
use Rattle.esm_model.specs.Entries.{holds}
use Rattle.esm_model.specs.Owed.{is_refused}
use Rattle.esm_ledger.specs.Coming.{TellsPassing}
use Rattle.esm_ingest.specs.Parts.{is_refused_at, refused_from}
use Rattle.esm_stream_core.specs.Gathered.{IsFrom}

-- one more place

or_none : (b : Bool) → (b || false) ≡ b
or_none true = refl
or_none false = refl

or_some : (b : Bool) → (b || true) ≡ true
or_some true = refl
or_some false = refl

holds_next : (xs : List ℕ) (i j : ℕ) → i < length xs → holds (take (i + 1) xs) j ≡ (holds (take i xs) j || (get_or xs i 0 == j))
holds_next xs i j low =
    let e : i + 1 ≡ suc i = omega arith in
    ap (λ (n : ℕ). holds (take n xs) j) e
    ∙ (ap (λ (ys : List ℕ). holds ys j) (take-suc xs i 0 low)
    ∙ (list_any-append (λ (p : ℕ). p == j) (take i xs) (get_or xs i 0 ∷ [])
    ∙ ap (λ (b : Bool). holds (take i xs) j || b) (or_none (get_or xs i 0 == j))))

-- the record at the place does not pass
pub marked : (passing : List Bool) (xs : List ℕ) (i first count k : ℕ) → length passing ≡ count → i < length xs → first ≤ get_or xs i 0 → k < count
    → get_or passing k false ≡ not (holds (take i xs) (first + k)) → get_or (set passing (get_or xs i 0 - first) false) k false ≡ not (holds (take (i + 1) xs) (first + k))
marked passing xs i first count k all low above within so_far =
    elim (cases_Bool (get_or xs i 0 == first + k)) [
      | inl same ↦ (
          let e : get_or xs i 0 ≡ first + k = eqb-true (get_or xs i 0) (first + k) same in
          let at : k ≡ get_or xs i 0 - first = omega (arith, e) in
          let inside : get_or xs i 0 - first < length passing = omega (arith, at, all, within) in
          get_or-set_at passing (get_or xs i 0 - first) k false false at inside
          ∙ sym (ap not (holds_next xs i (first + k) low ∙ (ap (λ (b : Bool). holds (take i xs) (first + k) || b) same ∙ or_some (holds (take i xs) (first + k))))))
      | inr off ↦ (
          let other : k ≢ get_or xs i 0 - first = λ (at : k ≡ get_or xs i 0 - first).
          (let e : get_or xs i 0 ≡ first + k = omega (arith, at, above) in
          let clash : true ≡ false = sym (eq-eqb (get_or xs i 0) (first + k) e) ∙ off in cc) in
          get_or-set_other passing (get_or xs i 0 - first) k false false other
          ∙ (so_far ∙ sym (ap not (holds_next xs i (first + k) low ∙ (ap (λ (b : Bool). holds (take i xs) (first + k) || b) off ∙ or_none (holds (take i xs) (first + k)))))))
    ]

-- the refused places of a part

refused_between : (s : Setting) (n from : ℕ) (rs : List Record) (low high : ℕ) → low ≤ from → from + length rs ≤ high → AllByRecursion (λ (i : ℕ). (low ≤ i) × (i < high)) (refused_from s n from rs)
refused_between s n from [] low high above below = tt
refused_between s n from (r ∷ rs) low high above below =
    let rest = refused_between s n (from + 1) rs low high (omega (arith, above)) (omega (arith, below)) in
    elim (cases_Bool (is_refused_at s n from r)) [
      | inl is ↦ rw is ((above, omega (arith, below)), rest)
      | inr passes ↦ rw passes rest
    ]

pub refused_within : (s : Setting) (n first : ℕ) (rs : List Record) → All (IsFrom first (length rs)) (refused_from s n first rs)
refused_within s n first rs = All-from_recursion (IsFrom first (length rs)) (refused_from s n first rs) (refused_between s n first rs first (first + length rs) (omega arith) (omega arith))

pub refused_few : (s : Setting) (n from : ℕ) (rs : List Record) → length (refused_from s n from rs) ≤ length rs
refused_few s n from [] = omega arith
refused_few s n from (r ∷ rs) =
    let rest = refused_few s n (from + 1) rs in
    elim (cases_Bool (is_refused_at s n from r)) [
      | inl is ↦ rw is (omega (arith, rest))
      | inr passes ↦ rw passes (omega (arith, rest))
    ]

refused_past : (s : Setting) (n from : ℕ) (rs : List Record) (i : ℕ) → i < from → holds (refused_from s n from rs) i ≡ false
refused_past s n from [] i low = refl
refused_past s n from (r ∷ rs) i low =
    let rest = refused_past s n (from + 1) rs i (omega (arith, low)) in
    let off : (from == i) ≡ false = false_from_ne_true (from == i) (λ same. (let e = eqb-true from i same in omega (arith, e, low))) in
    elim (cases_Bool (is_refused_at s n from r)) [
      | inl is ↦ rw (is, off) rest
      | inr passes ↦ rw passes rest
    ]

pub refused_holds : (s : Setting) (n from : ℕ) (rs : List Record) (k : ℕ) (r : Record) → slice_get rs k ≡ Some r → holds (refused_from s n from rs) (from + k) ≡ is_refused_at s n (from + k) r
refused_holds s n from [] k r at = cc
refused_holds s n from (x ∷ rs) zero r at =
    let e : from + 0 ≡ from = omega arith in
    let same : x ≡ r = some_same x r at in
    let rest = refused_past s n (from + 1) rs from (omega arith) in
    ap (holds (refused_from s n from (x ∷ rs))) e
    ∙ (here (is_refused_at s n from x) refl rest
    ∙ ap₂ (λ (i : ℕ) (q : Record). is_refused_at s n i q) (sym e) same)
  where
    some_same : (a b : Record) → Some a ≡ Some b → a ≡ b
    some_same a b is = cc

    here : (b : Bool) → is_refused_at s n from x ≡ b → holds (refused_from s n (from + 1) rs) from ≡ false → holds (refused_from s n from (x ∷ rs)) from ≡ b
    here true is rest = rw (is, eq-eqb from from refl) refl
    here false passes rest = rw passes rest
refused_holds s n from (x ∷ rs) (suc k) r at =
    let e : from + suc k ≡ (from + 1) + k = omega arith in
    let rest = refused_holds s n (from + 1) rs k r at in
    let off : (from == (from + 1) + k) ≡ false = false_from_ne_true (from == (from + 1) + k) (λ same. (let f = eqb-true from ((from + 1) + k) same in omega (arith, f))) in
    ap (holds (refused_from s n from (x ∷ rs))) e
    ∙ (later (is_refused_at s n from x) refl off
    ∙ (rest ∙ ap (λ (i : ℕ). is_refused_at s n i r) (sym e)))
  where
    later : (b : Bool) → is_refused_at s n from x ≡ b → (from == (from + 1) + k) ≡ false → holds (refused_from s n from (x ∷ rs)) ((from + 1) + k) ≡ holds (refused_from s n (from + 1) rs) ((from + 1) + k)
    later true is off = rw (is, off) refl
    later false passes off = rw passes refl

-- what passes is told by them
pub tells_passing : (s : Setting) (n first count : ℕ) (rs : List Record) (refused : List ℕ) (passing : List Bool) → refused ≡ refused_from s n first rs → count ≡ length rs → length passing ≡ count
    → ((k : ℕ) → k < count → get_or passing k false ≡ not (holds refused (first + k))) → TellsPassing s n first rs passing
tells_passing s n first count rs refused passing is same all each = record {
  all = all ∙ same;
  each = λ k r at none.
      (let low : k < length rs = slice_get_within rs k r at in
      let within : k < count = omega (arith, low, same) in
      each k within
      ∙ ap not (ap (λ (places : List ℕ). holds places (first + k)) is
      ∙ (refused_holds s n first rs k r at ∙ not_found (found_fate s n (first + k)) (is_refused s r) none)));
}
  where
    not_found : (o : Option FoundFate) (b : Bool) → o ≡ None → (is_none o && b) ≡ b
    not_found o b none = rw none refl
