-- Decimal digits of a number below 10 ^ 19, and what is written of that number.
use Rattle.std.proofs.Common.{◌≡◌, ℕ, ◌^◌, ◌<◌, ◌≤◌, true, List, length, take, lit<, arith, subst, take_all, length-take}
use Rattle.std.specs.Char.{is_ascii_digit}
use Rattle.std.specs.Fmt.{decimal}
use Rattle.std.specs.List.{list_all}
use Rattle.std.specs.Str.Parse.{AllDigits, digits_value}
use Rattle.std.proofs.lemmas.Fmt.{decimal-digits_value}
use Rattle.std.proofs.lemmas.Int.Digits.{digits_value-lt}
use Rattle.std.proofs.lemmas.Str.Parse.{numerals_by_value, tells_digits}
use Rattle.std.proofs.Math.Nat.{pow-le-pow_right}
use Rattle.esm_record.specs.Usual.{IsWhole}
use Rattle.esm_record.proofs.Digits.{all_digits}

-- the digits before one of nineteen write less than 10 ^ 18
pub before_last : (ds : List ℕ) (i : ℕ) → list_all is_ascii_digit ds ≡ true → i ≤ 18 → digits_value 10 (take i ds) < 10 ^ 18
before_last ds i h few =
    let short : length (take i ds) ≤ i = omega (arith, length-take i ds) in
    let most : 10 ^ length (take i ds) ≤ 10 ^ 18 = pow-le-pow_right {n = 10} (lit< tt) {i = length (take i ds)} {j = 18} (omega arith) in
    omega (arith, digits_value-lt 10 (take i ds) (all_digits ds i h), most)

are_all : (ds : List ℕ) → list_all is_ascii_digit ds ≡ true → AllDigits 10 ds
are_all ds h = subst (AllDigits 10) (take_all (length ds) ds (omega arith)) (all_digits ds (length ds) h)

pub whole_fits : (ds : List ℕ) → IsWhole ds → digits_value 10 ds < 2 ^ 64
whole_fits ds is =
    let most : 10 ^ length ds ≤ 10 ^ 19 = pow-le-pow_right {n = 10} (lit< tt) {i = length ds} {j = 19} is.few in
    omega (arith, digits_value-lt 10 ds (are_all ds is.all), most)

pub whole_written : (ds : List ℕ) → IsWhole ds → decimal (digits_value 10 ds) ≡ ds
whole_written ds is = decimal-digits_value (numerals_by_value _ tells_digits) ds (are_all ds is.all) is.some is.no_zero (whole_fits ds is)
