-- Decimal digits and the number that they write.
use Rattle.std.proofs.Common.{◌≡◌, ℕ, zero, suc, ◌-◌, ◌<◌, ◌≤◌, true, List, [], ◌∷◌, length, take, get_or, arith}
use Rattle.std.specs.List.{list_all}
use Rattle.std.specs.Char.{is_ascii_digit, digit_value}
use Rattle.std.specs.Str.Parse.{AllDigits}
use Rattle.std.proofs.lemmas.Bool.Decides.{nat_tests}

pub a_digit : (d : ℕ) → is_ascii_digit d ≡ true → (48 ≤ d) × (d ≤ 57) × (digit_value d ≡ d - 48)
a_digit d h = (grind (arith, nat_tests), grind (arith, nat_tests), grind (arith, nat_tests))

pub first_digit : (d : ℕ) (ds : List ℕ) → list_all is_ascii_digit (d ∷ ds) ≡ true → (is_ascii_digit d ≡ true) × (list_all is_ascii_digit ds ≡ true)
first_digit d ds h = (grind (arith, nat_tests), grind (arith, nat_tests))

pub all_digits : (ds : List ℕ) (i : ℕ) → list_all is_ascii_digit ds ≡ true → AllDigits 10 (take i ds)
all_digits [] zero h = tt
all_digits [] (suc i) h = tt
all_digits (d ∷ ds) zero h = tt
all_digits (d ∷ ds) (suc i) h =
    let both = first_digit d ds h in
    let digit = a_digit d both.0 in
    (omega arith, all_digits ds i both.1)

pub digit_at : (ds : List ℕ) (i : ℕ) → list_all is_ascii_digit ds ≡ true → i < length ds → is_ascii_digit (get_or ds i 0) ≡ true
digit_at [] i h below = absurd (omega arith)
digit_at (d ∷ ds) zero h below = (first_digit d ds h).0
digit_at (d ∷ ds) (suc i) h below = digit_at ds i (first_digit d ds h).1 (omega arith)
