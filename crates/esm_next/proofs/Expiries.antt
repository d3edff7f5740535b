-- How many of the first places pass a test, counted one by one up to a bound.
use Rattle.std.proofs.Common.{◌≡◌, ℕ, zero, suc, ◌+◌, ◌<◌, ◌≤◌, Bool, true, false, List, [], ◌∷◌, length, take, take_while, get_or, refl, sym, ap, ◌∙◌, inl, inr, arith, take-take}
use Rattle.std.specs.List.{prefix_len}
use Rattle.std.proofs.lemmas.Bool.{cases_Bool}
use Rattle.std.proofs.lemmas.List.{take_all}

prefix_first : (p : ℕ → Bool) (x : ℕ) (xs : List ℕ) → p x ≡ true → prefix_len p (x ∷ xs) ≡ 1 + prefix_len p xs
prefix_first p x xs passes = rw passes refl

prefix_none : (p : ℕ → Bool) (x : ℕ) (xs : List ℕ) → p x ≡ false → prefix_len p (x ∷ xs) ≡ 0
prefix_none p x xs fails = rw fails refl

pub prefix_within : (p : ℕ → Bool) (xs : List ℕ) → prefix_len p xs ≤ length xs
prefix_within p [] = omega arith
prefix_within p (x ∷ xs) = elim (cases_Bool (p x)) [
  | inl passes ↦ omega (arith, prefix_first p x xs passes, prefix_within p xs)
  | inr fails ↦ omega (arith, prefix_none p x xs fails)
]

-- one more that passes
pub prefix_more : (p : ℕ → Bool) (xs : List ℕ) (i d : ℕ) → i ≤ prefix_len p xs → i < length xs → p (get_or xs i d) ≡ true → i + 1 ≤ prefix_len p xs
prefix_more p [] i d low within passes = absurd (omega arith)
prefix_more p (x ∷ xs) zero d low within passes = omega (arith, prefix_first p x xs passes)
prefix_more p (x ∷ xs) (suc i) d low within passes = elim (cases_Bool (p x)) [
  | inl first ↦ (let e = prefix_first p x xs first in let rest : i + 1 ≤ prefix_len p xs = prefix_more p xs i d (omega (arith, low, e)) (omega arith) passes in omega (arith, rest, e))
  | inr fails ↦ absurd (omega (arith, low, prefix_none p x xs fails))
]

-- the first that fails
pub prefix_stops : (p : ℕ → Bool) (xs : List ℕ) (i d : ℕ) → i ≤ prefix_len p xs → i < length xs → p (get_or xs i d) ≡ false → prefix_len p xs ≡ i
prefix_stops p [] i d low within fails = absurd (omega arith)
prefix_stops p (x ∷ xs) zero d low within fails = prefix_none p x xs fails
prefix_stops p (x ∷ xs) (suc i) d low within fails = elim (cases_Bool (p x)) [
  | inl first ↦ (let e = prefix_first p x xs first in let rest : prefix_len p xs ≡ i = prefix_stops p xs i d (omega (arith, low, e)) (omega arith) fails in omega (arith, rest, e))
  | inr fails' ↦ absurd (omega (arith, low, prefix_none p x xs fails'))
]

-- the bound is reached
pub taken_full : (p : ℕ → Bool) (xs : List ℕ) (k most : ℕ) → k ≡ most → k ≤ prefix_len p xs → take k xs ≡ take most (take_while p xs)
taken_full p xs k most full low = sym (take-take most (prefix_len p xs) xs (omega (arith, full, low)) ∙ ap (λ j. take j xs) (sym full))

few_taken : (k : ℕ) (xs : List ℕ) → length (take k xs) ≤ k
few_taken zero xs = omega arith
few_taken (suc k) [] = omega arith
few_taken (suc k) (x ∷ xs) = (let rest = few_taken k xs in omega (arith, rest))

-- all that pass are counted
pub taken_whole : (p : ℕ → Bool) (xs : List ℕ) (k most : ℕ) → prefix_len p xs ≡ k → k ≤ most → take k xs ≡ take most (take_while p xs)
taken_whole p xs k most is few =
    let short : length (take_while p xs) ≤ most = (let l = few_taken (prefix_len p xs) xs in omega (arith, l, is, few)) in
    ap (λ j. take j xs) (sym is) ∙ sym (take_all most (take_while p xs) short)
