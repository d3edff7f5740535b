-- Numbers as texts: what `parse` gives of a word is its number where no plus and no leading zero stands first.
use Rattle.std.proofs.Common.{◌≡◌, ◌≢◌, ◌⊎◌, inl, inr, ℕ, zero, suc, ◌<◌, ◌≤◌, ◌^◌, List, [], ◌∷◌, length, get_or, Option, Result, Ok, Err, IfSome, IfNone, sym, ap, ◌∙◌, arith}
use Rattle.std.specs.Fmt.{decimal}
use Rattle.std.specs.Result.{result_ok}
use Rattle.std.specs.Str.Parse.{AllDigits, ParsesUnsigned, digits_value}
use Rattle.std.proofs.lemmas.Fmt.{decimal_digit, decimal-digits_value, first_decimal, parse-decimal}
use Rattle.std.proofs.lemmas.Str.Parse.{IsNumeralModel, numerals_by_value, parse_plain, tells_digits}

numerals : IsNumeralModel (AllDigits 10) (digits_value 10)
numerals = numerals_by_value (AllDigits 10) tells_digits

-- `0` is the only decimal text that begins with `0`
begins_above : (n : ℕ) → n < 2 ^ 32 → (48 < get_or (decimal n) 0 0) ⊎ (decimal n ≡ 48 ∷ [])
begins_above zero fits = inr (decimal_digit 0 (omega arith))
begins_above (suc n) fits = inl (first_decimal (suc n) (omega arith) (omega arith))

pub begins_without_plus : (n : ℕ) (word : List ℕ) → n < 2 ^ 32 → word ≡ decimal n → get_or word 0 0 ≢ 43
begins_without_plus n word fits spelled plus =
    elim (begins_above n fits) [
      | inl above ↦ omega (arith, ap (λ w. get_or w 0 0) spelled)
      | inr zero-text ↦ omega (arith, ap (λ w. get_or w 0 0) (spelled ∙ zero-text))
    ]

pub begins_with_zero : (n : ℕ) (word : List ℕ) → n < 2 ^ 32 → word ≡ decimal n → get_or word 0 0 ≡ 48 → length word ≡ 1
begins_with_zero n word fits spelled zero-first =
    elim (begins_above n fits) [
      | inl above ↦ absurd (omega (arith, ap (λ w. get_or w 0 0) spelled))
      | inr zero-text ↦ ap length (spelled ∙ zero-text)
    ]

pub number_some : {E : Type 0} (word : List ℕ) (r : Result ℕ E) (o : Option ℕ) → ParsesUnsigned 32 10 word r → o ≡ result_ok r → get_or word 0 0 ≢ 43 → (get_or word 0 0 ≡ 48 → length word ≤ 1) → IfSome o (λ n. word ≡ decimal n)
number_some {E} word (Ok x) o parses is plus lone =
    let read = parse_plain numerals {E = E} 32 word (Ok x) parses plus in
    let alone : get_or word 0 0 ≡ 48 → length word ≡ 1 = λ z. omega (arith, lone z, read.0.1) in
    let small : digits_value 10 word < 2 ^ 64 = omega (arith, read.0.2) in
    rw is (sym (ap decimal read.1 ∙ decimal-digits_value numerals word read.0.0 read.0.1 alone small))
number_some word (Err e) o parses is plus lone = rw is tt

pub number_none : {E : Type 0} (word : List ℕ) (r : Result ℕ E) (o : Option ℕ) → ParsesUnsigned 32 10 word r → o ≡ result_ok r → IfNone o ((n : ℕ) → n < 2 ^ 32 → word ≢ decimal n)
number_none word (Ok x) o parses is = rw is tt
number_none {E} word (Err e) o parses is =
    rw is (λ n fits spelled.
    let r : Result ℕ E = Err e in
    let same : r ≡ Ok n = parse-decimal {E = E} 32 n word (Err e) (omega arith) (omega arith) spelled parses in
    cc)
