-- Greater numbers have later sequence numbers.
use Rattle.std.proofs.Common.{◌≡◌, ℕ, zero, suc, ◌+◌, ◌/◌, ◌%◌, ◌^◌, ◌<◌, ◌≤◌, List, [], ◌∷◌, ◌++◌, length, refl, arith, inl, inr, length-append, ◌⊎◌}
use Rattle.std.specs.Cmp.Lexicographic.{slice_cmp}
use Rattle.std.specs.Fmt.{decimal}
use Rattle.std.specs.Ordering.{nat_cmp, ordering_then}
use Rattle.std.specs.declared.cmp.Ordering.{Ordering}
use Rattle.std.specs.declared.cmp.Ordering.TheVariants.{Less, Equal, Greater}
use Rattle.std.proofs.lemmas.Bool.{cases_lt}
use Rattle.std.proofs.lemmas.Bool.Decides.{nat_tests}
use Rattle.std.proofs.lemmas.Fmt.{decimal_digit, decimal_step, decimal_nonempty}
use Rattle.esm_model.specs.Sequence.{sequence_order}

less : (a b : ℕ) → a < b → nat_cmp a b ≡ Less
less a b h = grind (arith, nat_tests)

same : (a : ℕ) → nat_cmp a a ≡ Equal
same a = grind (arith, nat_tests)

from_less : (a b : ℕ) → nat_cmp a b ≡ Less → a < b
from_less a b h = grind (arith, nat_tests)

from_equal : (a b : ℕ) → nat_cmp a b ≡ Equal → a ≡ b
from_equal a b h = grind (arith, nat_tests)

-- what an order that is decided by the first of two, or else by the second, was decided by
by_which : (o r : Ordering) → ordering_then o r ≡ Less → (o ≡ Less) ⊎ ((o ≡ Equal) × (r ≡ Less))
by_which Less r h = inl refl
by_which Equal r h = inr (refl, h)
by_which Greater r h = cc h

keeps_less : (o r s : Ordering) → (r ≡ Less → s ≡ Less) → ordering_then o r ≡ Less → ordering_then o s ≡ Less
keeps_less Less r s f h = refl
keeps_less Equal r s f h = f h
keeps_less Greater r s f h = cc h

-- a text before another of its length stays so where each gets one more byte
longer_less : (xs ys : List ℕ) (a b : ℕ) → length xs ≡ length ys → slice_cmp nat_cmp xs ys ≡ Less → slice_cmp nat_cmp (xs ++ a ∷ []) (ys ++ b ∷ []) ≡ Less
longer_less [] [] a b l h = cc h
longer_less [] (y ∷ ys) a b l h = absurd (omega arith)
longer_less (x ∷ xs) [] a b l h = absurd (omega arith)
longer_less (x ∷ xs) (y ∷ ys) a b l h = keeps_less (nat_cmp x y) _ _ (longer_less xs ys a b (omega arith)) h

last_less : (xs : List ℕ) (a b : ℕ) → a < b → slice_cmp nat_cmp (xs ++ a ∷ []) (xs ++ b ∷ []) ≡ Less
last_less [] a b h = rw (less a b h) refl
last_less (x ∷ xs) a b h = rw (same x) (last_less xs a b h)

longer_before : (xs ys : List ℕ) (a b : ℕ) → sequence_order xs ys ≡ Less → sequence_order (xs ++ a ∷ []) (ys ++ b ∷ []) ≡ Less
longer_before xs ys a b h = elim (by_which (nat_cmp (length xs) (length ys)) (slice_cmp nat_cmp xs ys) h) [
  | inl shorter ↦
      let l = from_less (length xs) (length ys) shorter in
      let longer : length (xs ++ a ∷ []) < length (ys ++ b ∷ []) = omega (arith, length-append xs (a ∷ []), length-append ys (b ∷ [])) in
      rw (less (length (xs ++ a ∷ [])) (length (ys ++ b ∷ [])) longer) refl
  | inr equal ↦
      let l = from_equal (length xs) (length ys) equal.0 in
      let longer : length (xs ++ a ∷ []) ≡ length (ys ++ b ∷ []) = omega (arith, length-append xs (a ∷ []), length-append ys (b ∷ [])) in
      rw (longer, same (length (ys ++ b ∷ []))) (longer_less xs ys a b l equal.1)
]

last_before : (xs : List ℕ) (a b : ℕ) → a < b → sequence_order (xs ++ a ∷ []) (xs ++ b ∷ []) ≡ Less
last_before xs a b h =
    let longer : length (xs ++ a ∷ []) ≡ length (xs ++ b ∷ []) = omega (arith, length-append xs (a ∷ []), length-append xs (b ∷ [])) in
    rw (longer, same (length (xs ++ b ∷ []))) (last_less xs a b h)

-- a digit, and a number of more than one
digit_before : (a b : ℕ) → a < 10 → 10 ≤ b → b < 2 ^ 64 → sequence_order (decimal a) (decimal b) ≡ Less
digit_before a b low high fits =
    let some = decimal_nonempty (b / 10) (omega arith) in
    let longer : length ((48 + a) ∷ []) < length (decimal (b / 10) ++ (48 + b % 10) ∷ []) = omega (arith, length-append (decimal (b / 10)) ((48 + b % 10) ∷ [])) in
    rw (decimal_digit a low, decimal_step b high fits) (rw (less (length ((48 + a) ∷ [])) (length (decimal (b / 10) ++ (48 + b % 10) ∷ [])) longer) refl)

digits_before : (a b : ℕ) → a < b → b < 10 → sequence_order (decimal a) (decimal b) ≡ Less
digits_before a b h low = rw (decimal_digit a (omega arith), decimal_digit b low) (last_before [] (48 + a) (48 + b) (omega arith))

steps_before : (a b : ℕ) → 10 ≤ a → a < b → b < 2 ^ 64 → (a / 10 < b / 10 → sequence_order (decimal (a / 10)) (decimal (b / 10)) ≡ Less) → sequence_order (decimal a) (decimal b) ≡ Less
steps_before a b high h fits front =
    let large : 10 ≤ b = omega arith in
    let small : a < 2 ^ 64 = omega arith in
    rw (decimal_step a high small, decimal_step b large fits) (elim (cases_lt (a / 10) (b / 10)) [
      | inl lt ↦ longer_before (decimal (a / 10)) (decimal (b / 10)) (48 + a % 10) (48 + b % 10) (front lt)
      | inr ge ↦
          let e : b / 10 ≡ a / 10 = omega arith in
          rw e (last_before (decimal (a / 10)) (48 + a % 10) (48 + b % 10) (omega arith))
    ])

below_before : (k a b : ℕ) → b < k → a < b → b < 2 ^ 64 → sequence_order (decimal a) (decimal b) ≡ Less
below_before zero a b bound h fits = absurd (omega arith)
below_before (suc k) a b bound h fits = elim (cases_lt b 10) [
  | inl low ↦ digits_before a b h low
  | inr high ↦ elim (cases_lt a 10) [
    | inl low ↦ digit_before a b low high fits
    | inr large ↦ steps_before a b large h fits (λ lt. below_before k (a / 10) (b / 10) (omega arith) lt (omega arith))
  ]
]

pub before : (a b : ℕ) → a < b → b < 2 ^ 64 → sequence_order (decimal a) (decimal b) ≡ Less
before a b h fits = below_before (suc b) a b (omega arith) h fits
