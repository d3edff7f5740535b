-- A shard of which nothing was found.
use Rattle.std.proofs.Common.{◌≡◌, ℕ, zero, suc, ◌+◌, ◌-◌, ◌<◌, ◌≤◌, true, false, ◌&&◌, ◌||◌, List, [], ◌∷◌, length, get_or, refl, sym, subst, inl, inr, None, arith}
use Rattle.std.specs.Prelude.{◌==◌, nat_eq, find, Ok, Err}
use Rattle.std.specs.List.{list_any}
use Rattle.std.specs.List.Sorted.{IsStrictlyIncreasing, IsBinarySearchResult}
use Rattle.std.specs.Ordering.{nat_cmp}
use Rattle.std.proofs.lemmas.Bool.{cases_Bool, cases_lt, eq-eqb, eqb-true, or_parts}
use Rattle.std.proofs.lemmas.List.Sorted.{searched}
use Rattle.std.proofs.lemmas.List.Folds.{list_any_at}
use Rattle.esm_model.specs.declared.setup.FoundFate.{FoundFate}
use Rattle.esm_model.specs.declared.setup.FoundState.{FoundState}
use Rattle.esm_model.specs.declared.setup.FoundTries.{FoundTries}
use Rattle.esm_model.specs.declared.setup.FoundWindowTries.{FoundWindowTries}
use Rattle.esm_journal_state.specs.SaidLists.{SaidLists, has_shard, fate_told, tries_told}

-- a number that a search of rising numbers did not find is none of them

rises : (xs : List ℕ) → IsStrictlyIncreasing xs → (i g : ℕ) → i + g < length xs → get_or xs i 0 ≤ get_or xs (i + g) 0
rises xs up i zero low = (let e : i ≡ i + 0 = omega arith in subst (λ n. get_or xs i 0 ≤ get_or xs n 0) e (omega arith))
rises xs up i (suc g) low =
    let e : (i + g) + 1 ≡ i + suc g = omega arith in
    let before = rises xs up i g (omega (arith, low)) in
    let step : get_or xs (i + g) 0 < get_or xs ((i + g) + 1) 0 = up (i + g) (omega (arith, low)) in
    subst (λ n. get_or xs i 0 ≤ get_or xs n 0) e (omega (arith, before, step))

ordered : (xs : List ℕ) → IsStrictlyIncreasing xs → (i j : ℕ) → i ≤ j → j < length xs → get_or xs i 0 ≤ get_or xs j 0
ordered xs up i j low within =
    let e : i + (j - i) ≡ j = omega (arith, low) in
    subst (λ n. get_or xs i 0 ≤ get_or xs n 0) e (rises xs up i (j - i) (omega (arith, e, within)))

absent : (xs : List ℕ) (n : ℕ) → ((k : ℕ) → k < length xs → get_or xs k 0 ≡ n → ⊥) → list_any (nat_eq n) xs ≡ false
absent [] n none = refl
absent (x ∷ xs) n none = elim (cases_Bool (nat_eq n x)) [
  | inl same ↦ absurd (none 0 (omega arith) (sym (eqb-true n x same)))
  | inr off ↦ rw off (absent xs n (λ k low. none (suc k) (omega (arith, low))))
]

pub not_listed : (xs : List ℕ) (n i : ℕ) → IsBinarySearchResult (λ y. nat_cmp y n) xs (Err i) → IsStrictlyIncreasing xs → list_any (nat_eq n) xs ≡ false
not_listed xs n i result up =
    let parts : (i ≤ length xs) × ((k : ℕ) → k < i → get_or xs k 0 < n) × ((k : ℕ) → i ≤ k → k < length xs → n < get_or xs k 0) = searched xs n (Err i) result (ordered xs up) in
    absent xs n (λ k low is. elim (cases_lt k i) [
      | inl before ↦ (let less = parts.1 k before in omega (arith, less, is))
      | inr after ↦ (let more = parts.2 k after low in omega (arith, more, is))
    ])

pub found_listed : (xs : List ℕ) (n i : ℕ) → IsBinarySearchResult (λ y. nat_cmp y n) xs (Ok i) → IsStrictlyIncreasing xs → list_any (nat_eq n) xs ≡ true
found_listed xs n i result up =
    let parts : (i < length xs) × (get_or xs i 0 ≡ n) = searched xs n (Ok i) result (ordered xs up) in
    list_any_at (nat_eq n) xs i 0 parts.0 (eq-eqb n (get_or xs i 0) (sym parts.1))

pub some_listed : (xs : List ℕ) → 0 < length xs → (n : ℕ) × (list_any (nat_eq n) xs ≡ true)
some_listed xs some = (get_or xs 0 0, list_any_at (nat_eq (get_or xs 0 0)) xs 0 0 some (eq-eqb (get_or xs 0 0) (get_or xs 0 0) refl))

pub none_listed : (xs : List ℕ) (n : ℕ) → length xs ≡ 0 → list_any (nat_eq n) xs ≡ false
none_listed [] n none = refl
none_listed (x ∷ xs) n none = absurd (omega (arith, none))

-- nothing is told of its records

fate_none : (fs : List FoundFate) (n i : ℕ) → list_any (λ (f : FoundFate). f.shard == n) fs ≡ false → find (λ (f : FoundFate). (f.shard == n) && (f.place == i)) fs ≡ None
fate_none [] n i none = refl
fate_none (f ∷ fs) n i none =
    let parts = or_parts (f.shard == n) (list_any (λ (f : FoundFate). f.shard == n) fs) none in
    rw parts.0 (fate_none fs n i parts.1)

tries_none : (fs : List FoundTries) (n i : ℕ) → list_any (λ (f : FoundTries). f.shard == n) fs ≡ false → find (λ (f : FoundTries). (f.shard == n) && (f.place == i)) fs ≡ None
tries_none [] n i none = refl
tries_none (f ∷ fs) n i none =
    let parts = or_parts (f.shard == n) (list_any (λ (f : FoundTries). f.shard == n) fs) none in
    rw parts.0 (tries_none fs n i parts.1)

pub untold : (t : SaidLists) (n : ℕ) → has_shard t n ≡ false → ((i : ℕ) → fate_told t n i ≡ None) × ((i : ℕ) → tries_told t n i ≡ None)
untold t n none =
    let fates = list_any (λ (f : FoundFate). f.shard == n) t.fates in
    let tries = list_any (λ (f : FoundTries). f.shard == n) t.tries in
    let states = list_any (λ (f : FoundState). f.shard == n) t.states in
    let windows = list_any (λ (f : FoundWindowTries). f.shard == n) t.window_tries in
    let records = or_parts fates tries (or_parts (fates || tries) states (or_parts ((fates || tries) || states) windows none).0).0 in
    (λ i. fate_none t.fates n i records.0, λ i. tries_none t.tries n i records.1)
