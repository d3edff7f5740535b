-- The moment of an element in an event is a number in range.
use Rattle.std.proofs.Common.{◌≡◌, ◌∙◌, ℕ, zero, suc, ◌*◌, ◌/◌, ◌%◌, ◌^◌, ◌<◌, ◌≤◌, T, arith, true, false, ◌==◌, lt-ltb, ne_eqb, refl, sym, ap, ap₂, subst, List, [], ◌∷◌, ◌++◌, append_assoc, append-nil, codes, get_or, length, length-append}
use Rattle.std.specs.Prelude.{is_some}
use Rattle.std.specs.Char.{digit_value, is_ascii_digit}
use Rattle.std.specs.Float.{Float, binary64, nan, inf, fin, float_is_finite, float_zero, two_to}
use Rattle.std.specs.Fmt.{decimal}
use Rattle.std.specs.List.{list_all}
use Rattle.std.specs.Str.Parse.{AllDigits}
use Rattle.std.proofs.lemmas.Bool.{and_parts}
use Rattle.std.proofs.lemmas.Fmt.{decimal_is_IsNumeral, decimal_digit, first_decimal, length-decimal-le}
use Rattle.std.proofs.lemmas.List.Folds.{list_all-append}
use Rattle.std.proofs.lemmas.Str.Parse.{digits_value_short, numerals_by_value, tells_digits}
use lib.Ieee.{eq, le, lt, round}
use lib.Ieee.Order.{round_mono}
use Rattle.fast_float.specs.Text.{Parts, digits_of, nearest, scan, tens_down, tens_up, text_of}
use Rattle.fast_float.proofs.Writing.{scan-text_of}
use Rattle.ryu.specs.Plain.{IsPlain}
use Rattle.json.specs.Print.{IsNumber}
use Rattle.json.proofs.Printed.Floats.{IsNumber-plain}
use Rattle.serde_json.specs.Read.{is_integer, number_from, number_of}
use Rattle.esm_model.specs.EventText.{seconds_text}
use Rattle.esm_model.specs.Numbers.{padded_decimal}
use Rattle.esm_model.proofs.NumberLemmas.{length-last_digits}
use Rattle.esm_record.proofs.Digits.{a_digit}
use Rattle.esm_ddb.specs.OwnForm.{IsMoment, is_number_byte}
use Rattle.esm_ddb.proofs.ReadBack.{decimal_digits, digits_all}

-- ---- floats of a small number are finite

in_between : (x : Float) → T (le float_zero x) → T (le x (two_to 60)) → float_is_finite x ≡ true
unfolding le lt eq float_is_finite
in_between nan low high = absurd low
in_between (inf true) low high = absurd low
in_between (inf false) low high = absurd high
in_between (fin s m e) low high = refl

zero_is : round binary64 false 0 1 ≡ float_zero
unfolding round
zero_is = refl

top_is : round binary64 false (2 ^ 60) 1 ≡ two_to 60
unfolding round
top_is = refl

finite_thousandths : (n : ℕ) → n ≤ 2 ^ 60 → float_is_finite (round binary64 false n 1000) ≡ true
finite_thousandths n h =
    let x = round binary64 false n 1000 in
    in_between x
    (subst (λ (y : Float). T (le y x)) zero_is (round_mono binary64 0 1 n 1000 (omega arith) (omega arith) (omega arith)))
    (subst (λ (y : Float). T (le x y)) top_is (round_mono binary64 n 1000 (2 ^ 60) 1 (omega arith) (omega arith) (omega (arith, h))))

-- ---- the moment

digit_byte : (x : ℕ) → is_ascii_digit x ≡ true → is_number_byte x ≡ true
digit_byte x h = rw h refl

digit_bytes : (ds : List ℕ) → list_all is_ascii_digit ds ≡ true → list_all is_number_byte ds ≡ true
digit_bytes [] h = refl
digit_bytes (x ∷ xs) h =
    let p = and_parts (is_ascii_digit x) (list_all is_ascii_digit xs) h in
    rw (digit_byte x p.0, digit_bytes xs p.1) refl

pub moment_bytes : (m : List ℕ) → IsMoment m → list_all is_number_byte m ≡ true
moment_bytes m is =
    ap (list_all is_number_byte) is.is
    ∙ list_all-append is_number_byte is.whole (46 ∷ is.fraction)
    ∙ rw (digit_bytes is.whole is.digits, digit_bytes is.fraction is.fraction_digits) refl

all_digits : (ds : List ℕ) → list_all is_ascii_digit ds ≡ true → AllDigits 10 ds
all_digits [] h = tt
all_digits (d ∷ ds) h =
    let both = and_parts (is_ascii_digit d) (list_all is_ascii_digit ds) h in
    let digit = a_digit d both.0 in
    (omega arith, all_digits ds both.1)

abbrev parts_of : List ℕ → List ℕ → Parts
parts_of whole fraction = record { whole = whole; point = true; fraction = fraction; exponent_negative = false; exponent = []; len = length (whole ++ (46 ∷ fraction ++ [])) }

abbrev parts_in : (m : List ℕ) → IsMoment m → Parts
parts_in m is = parts_of is.whole is.fraction

plain_moment : (m : List ℕ) (is : IsMoment m) → IsPlain (parts_in m is)
plain_moment m is =
    let three = is.three in
    record {
      well_formed = record { whole_digits = all_digits is.whole is.digits; fraction_digits = all_digits is.fraction is.fraction_digits; exponent_digits = tt; no_point = λ no. absurd (cc); no_exponent = λ _. refl; len_is = refl };
      whole = is.some;
      no_leading_zero = is.no_zero;
      fraction = λ _. omega (arith, three);
      marked = λ no. absurd (cc);
    }

moment_text : (m : List ℕ) (is : IsMoment m) → m ≡ text_of (parts_in m is)
moment_text m is = is.is ∙ ap (λ l. is.whole ++ 46 ∷ l) (sym (append-nil is.fraction))

pub moment_number : (m : List ℕ) → IsMoment m → IsNumber m
moment_number m is = IsNumber-plain m (false, parts_in m is, moment_text m is, plain_moment m is)

moment_digits : (m : List ℕ) (is : IsMoment m) → AllDigits 10 (is.whole ++ is.fraction)
moment_digits m is =
    all_digits (is.whole ++ is.fraction) (list_all-append is_ascii_digit is.whole is.fraction ∙ rw (is.digits, is.fraction_digits) refl)

moment_short : (m : List ℕ) (is : IsMoment m) → digits_of (parts_in m is) < 10 ^ 15
moment_short m is =
    let few = is.few in
    let three = is.three in
    digits_value_short (numerals_by_value (AllDigits 10) tells_digits) (is.whole ++ is.fraction) 15 (moment_digits m is)
    (omega (arith, length-append is.whole is.fraction, few, three))

moment_nearest : (m : List ℕ) (is : IsMoment m) → nearest binary64 false (parts_in m is) ≡ round binary64 false (digits_of (parts_in m is)) 1000
moment_nearest m is =
    let p = parts_in m is in
    let up : digits_of p * 10 ^ tens_up p ≡ digits_of p = omega arith in
    let size = is.three in
    let three : tens_down p ≡ 3 = omega (arith, size) in
    ap₂ (round binary64 false) up (ap (λ (n : ℕ). 10 ^ n) three)

moment_finite : (m : List ℕ) (is : IsMoment m) → float_is_finite (nearest binary64 false (parts_in m is)) ≡ true
moment_finite m is =
    let short = moment_short m is in
    ap float_is_finite (moment_nearest m is) ∙ finite_thousandths (digits_of (parts_in m is)) (omega (arith, short))

with_point : (p : Parts) → p.point ≡ true → 0 < length p.whole → is_integer p ≡ false
with_point p point some = rw (point, lt-ltb _ _ some) refl

number_read : (s : List ℕ) (p : Parts) → (get_or s 0 0 == 45) ≡ false → scan s ≡ p → number_of s ≡ number_from false p
unfolding number_of
number_read s p minus parts = rw minus (ap (number_from false) parts)

some_float : (p : Parts) → is_integer p ≡ false → float_is_finite (nearest binary64 false p) ≡ true → is_some (number_from false p) ≡ true
some_float p integer finite = rw (integer, finite) refl

no_minus : (ds rest : List ℕ) → AllDigits 10 ds → 0 < length ds → (get_or (ds ++ rest) 0 0 == 45) ≡ false
no_minus [] rest h some = absurd (omega (arith, some))
no_minus (d ∷ ds) rest h some = let digit : digit_value d < 10 = h.0 in ne_eqb d 45 (λ (is : d ≡ 45). grind arith)

pub moment_in_range : (m : List ℕ) → IsMoment m → is_some (number_of m) ≡ true
moment_in_range m is =
    let p = parts_in m is in
    let same = moment_text m is in
    let digits = all_digits is.whole is.digits in
    let minus : (get_or m 0 0 == 45) ≡ false = ap (λ (t : List ℕ). get_or t 0 0 == 45) same ∙ no_minus is.whole _ digits is.some in
    ap is_some (number_read m p minus (ap scan same ∙ scan-text_of p (plain_moment m is).well_formed))
    ∙ some_float p (with_point p refl is.some) (moment_finite m is)

-- ---- of a record

no_leading : (n : ℕ) → n < 2 ^ 64 → get_or (decimal n) 0 0 ≡ 48 → length (decimal n) ≡ 1
no_leading zero h e = ap (λ l. length l) (decimal_digit 0 (omega arith))
no_leading (suc n) h e = absurd (omega (arith, first_decimal (suc n) (omega arith) h, e))

pub seconds_moment : (ms : ℕ) → ms ≤ 253402300799999 → IsMoment (seconds_text ms)
seconds_moment ms h =
    let whole = decimal (ms / 1000) in
    let part = padded_decimal 3 (ms % 1000) in
    record {
      whole = whole;
      fraction = part;
      is = append_assoc whole (codes ".") part;
      digits = decimal_digits (ms / 1000) (omega (arith, h));
      some = (decimal_is_IsNumeral (ms / 1000) (omega (arith, h))).0.0;
      few = length-decimal-le 12 (ms / 1000) (omega arith) (omega (arith, h)) (omega (arith, h));
      no_zero = no_leading (ms / 1000) (omega (arith, h));
      fraction_digits = digits_all 3 (ms % 1000);
      three = length-last_digits 10 3 (ms % 1000);
    }
