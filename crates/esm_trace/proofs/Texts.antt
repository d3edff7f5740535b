-- Numbers, shards and base64 as texts: each tells what it writes.
use Rattle.std.proofs.Common.{◌≡◌, ◌∙◌, ℕ, zero, suc, ◌+◌, ◌*◌, ◌/◌, ◌%◌, ◌<◌, ◌==◌, nat_lt, not, Bool, true, false, refl, sym, ap, List, [], ◌∷◌, ◌++◌, append_assoc, All, length, drop, replicate, codes, slice_index, decimal, arith, Ok}
use Rattle.std.specs.Char.{is_ascii_digit, digit_value}
use Rattle.std.specs.Fmt.{digit_glyph}
use Rattle.std.specs.List.{flat_map, list_all}
use Rattle.std.specs.Str.Parse.{digits_value}
use Rattle.std.proofs.lemmas.Bool.{and_parts}
use Rattle.std.proofs.lemmas.Bool.Decides.{nat_tests}
use Rattle.std.proofs.lemmas.Fmt.{decimal_by_steps, decimal_injective, decimal_nonempty}
use Rattle.std.proofs.lemmas.Int.Digits.{digits_value_push}
use Rattle.std.proofs.lemmas.List.Folds.{list_all-append}
use Rattle.base64.specs.Engines.{standard}
use Rattle.base64.specs.GeneralPurpose.{IsBytes, engine_symbols, decode_of}
use Rattle.base64.specs.Rfc4648.{encode_symbols, padding_len}
use Rattle.base64.proofs.EngineFacts.{decode_of-encode_of}
use Rattle.esm_model.specs.EventText.{base64_text, shard_id}
use Rattle.esm_model.specs.Numbers.{last_digits}
use Rattle.esm_model.proofs.NumberLemmas.{length-last_digits}
use Rattle.esm_trace.specs.Trace.{numbers_text}
use Rattle.esm_trace.specs.Within.{IsNumber}
use Rattle.esm_trace.proofs.Cutting.{first, Stops, apart, cons_same, span, same_length, head_is, tail_is}

-- numbers

digit_below : (n : ℕ) → n < 10 → is_ascii_digit (48 + n) ≡ true
digit_below n h = grind (arith, nat_tests)

decimal_digits : (n : ℕ) → IsNumber n → list_all is_ascii_digit (decimal n) ≡ true
decimal_digits n h =
    decimal_by_steps (λ m ds. list_all is_ascii_digit ds ≡ true)
    (λ m low. rw (digit_below m low) refl)
    (λ m ds high before. rw (list_all-append is_ascii_digit ds ((48 + m % 10) ∷ []), before, digit_below (m % 10) (omega arith)) refl)
    n h

pub number_first : (m n : ℕ) (r s : List ℕ) → IsNumber m → IsNumber n → Stops is_ascii_digit r → Stops is_ascii_digit s → decimal m ++ r ≡ decimal n ++ s → (m ≡ n) × (r ≡ s)
number_first m n r s hm hn hr hs e =
    let both = span is_ascii_digit (decimal m) (decimal n) r s (decimal_digits m hm) (decimal_digits n hn) hr hs e in
    (decimal_injective m n hm hn both.0, both.1)

-- lists of numbers between brackets

abbrev following : List ℕ → List ℕ
following places = flat_map (λ y. codes "," ++ decimal y) places

following_stops : (ps r : List ℕ) → Stops is_ascii_digit (following ps ++ (93 ∷ r))
following_stops [] r = refl
following_stops (p ∷ ps) r = refl

following_first : (ps qs r s : List ℕ) → All IsNumber ps → All IsNumber qs → following ps ++ (93 ∷ r) ≡ following qs ++ (93 ∷ s) → (ps ≡ qs) × (r ≡ s)
following_first [] [] r s hp hq e = (refl, ap (drop 1) e)
following_first [] (q ∷ qs) r s hp hq e = absurd (apart 93 44 refl (ap first e))
following_first (p ∷ ps) [] r s hp hq e = absurd (apart 44 93 refl (ap first e))
following_first (p ∷ ps) (q ∷ qs) r s hp hq e =
    let next : decimal p ++ (following ps ++ (93 ∷ r)) ≡ decimal q ++ (following qs ++ (93 ∷ s)) =
    sym (append_assoc (decimal p) (following ps) (93 ∷ r)) ∙ (ap (drop 1) e ∙ append_assoc (decimal q) (following qs) (93 ∷ s)) in
    let both = number_first p q (following ps ++ (93 ∷ r)) (following qs ++ (93 ∷ s)) (head_is IsNumber p ps hp) (head_is IsNumber q qs hq) (following_stops ps r) (following_stops qs s) next in
    let rest = following_first ps qs r s (tail_is IsNumber p ps hp) (tail_is IsNumber q qs hq) both.1 in
    (cons_same p q ps qs both.0 rest.0, rest.1)

-- a number is not nothing
no_number : (q : ℕ) (qs r s : List ℕ) → IsNumber q → 93 ∷ r ≡ (decimal q ++ following qs) ++ (93 ∷ s) → ⊥
no_number q qs r s hq e =
    let both = span is_ascii_digit [] (decimal q) (93 ∷ r) (following qs ++ (93 ∷ s)) refl (decimal_digits q hq) refl (following_stops qs s) (e ∙ append_assoc (decimal q) (following qs) (93 ∷ s)) in
    let none : 0 ≡ length (decimal q) = ap length both.0 in
    omega (arith, none, decimal_nonempty q hq)

pub list_first : (ps qs r s : List ℕ) → All IsNumber ps → All IsNumber qs → numbers_text ps ++ (93 ∷ r) ≡ numbers_text qs ++ (93 ∷ s) → (ps ≡ qs) × (r ≡ s)
unfolding numbers_text
list_first [] [] r s hp hq e = (refl, ap (drop 1) e)
list_first [] (q ∷ qs) r s hp hq e = absurd (no_number q qs r s (head_is IsNumber q qs hq) e)
list_first (p ∷ ps) [] r s hp hq e = absurd (no_number p ps s r (head_is IsNumber p ps hp) (sym e))
list_first (p ∷ ps) (q ∷ qs) r s hp hq e =
    let next : decimal p ++ (following ps ++ (93 ∷ r)) ≡ decimal q ++ (following qs ++ (93 ∷ s)) =
    sym (append_assoc (decimal p) (following ps) (93 ∷ r)) ∙ (e ∙ append_assoc (decimal q) (following qs) (93 ∷ s)) in
    let both = number_first p q (following ps ++ (93 ∷ r)) (following qs ++ (93 ∷ s)) (head_is IsNumber p ps hp) (head_is IsNumber q qs hq) (following_stops ps r) (following_stops qs s) next in
    let rest = following_first ps qs r s (tail_is IsNumber p ps hp) (tail_is IsNumber q qs hq) both.1 in
    (cons_same p q ps qs both.0 rest.0, rest.1)

-- shards

-- 10 ^ w
abbrev reach : ℕ → ℕ
reach zero = 1
reach (suc w) = 10 * reach w

glyph_is : (d : ℕ) → d < 10 → digit_glyph false d ≡ 48 + d
glyph_is d h = let below : nat_lt d 10 ≡ true = grind (arith, nat_tests) in rw below refl

value_of : (d c : ℕ) → d < 10 → c ≡ 48 + d → digit_value c ≡ d
value_of d c h is = let shown : is_ascii_digit c ≡ true = rw is (digit_below d h) in grind (arith, nat_tests)

digits_number : (w n : ℕ) → n < reach w → digits_value 10 (last_digits 10 w n) ≡ n
unfolding last_digits
digits_number zero n h = let none : n ≡ 0 = omega arith in sym none
digits_number (suc w) n h =
    let front = digits_number w (n / 10) (omega arith) in
    let last = value_of (n % 10) (digit_glyph false (n % 10)) (omega arith) (glyph_is (n % 10) (omega arith)) in
    digits_value_push 10 (last_digits 10 w (n / 10)) (digit_glyph false (n % 10)) ∙ omega (arith, front, last)

pub shard_first : (m n : ℕ) (r s : List ℕ) → m < 1000000000000 → n < 1000000000000 → shard_id m ++ r ≡ shard_id n ++ s → (m ≡ n) × (r ≡ s)
shard_first m n r s hm hn e =
    let digits : last_digits 10 12 m ++ r ≡ last_digits 10 12 n ++ s = ap (drop 8) e in
    let both = same_length (last_digits 10 12 m) (last_digits 10 12 n) r s (length-last_digits 10 12 m ∙ sym (length-last_digits 10 12 n)) digits in
    (sym (digits_number 12 m hm) ∙ (ap (digits_value 10) both.0 ∙ digits_number 12 n hn), both.1)

-- base64

-- not a quotation mark
abbrev pub is_bare : ℕ → Bool
is_bare x = not (x == 34)

bare_at : (xs : List ℕ) (i : ℕ) → list_all is_bare xs ≡ true → is_bare (slice_index xs i) ≡ true
bare_at [] i h = refl
bare_at (x ∷ xs) zero h = (and_parts (is_bare x) (list_all is_bare xs) h).0
bare_at (x ∷ xs) (suc i) h = bare_at xs i (and_parts (is_bare x) (list_all is_bare xs) h).1

abbrev symbols : List ℕ
symbols = engine_symbols standard

symbol : (i : ℕ) → is_bare (slice_index symbols i) ≡ true
symbol i = bare_at symbols i refl

symbols_bare : (m : List ℕ) → list_all is_bare (encode_symbols symbols m) ≡ true
unfolding encode_symbols
symbols_bare [] = refl
symbols_bare (a ∷ []) = rw (symbol (a / 4), symbol (a % 4 * 16)) refl
symbols_bare (a ∷ b ∷ []) = rw (symbol (a / 4), symbol (a % 4 * 16 + b / 16), symbol (b % 16 * 4)) refl
symbols_bare (a ∷ b ∷ c ∷ rest) =
    rw (symbol (a / 4), symbol (a % 4 * 16 + b / 16), symbol (b % 16 * 4 + c / 64), symbol (c % 64)) (symbols_bare rest)

equals_bare : (n : ℕ) → list_all is_bare (replicate n 61) ≡ true
equals_bare zero = refl
equals_bare (suc n) = equals_bare n

base64_bare : (m : List ℕ) → list_all is_bare (base64_text m) ≡ true
unfolding base64_text
base64_bare m =
    list_all-append is_bare (encode_symbols symbols m) (replicate (padding_len (length m)) 61)
    ∙ rw (symbols_bare m, equals_bare (padding_len (length m))) refl

base64_same : (x y : List ℕ) → IsBytes x → IsBytes y → base64_text x ≡ base64_text y → x ≡ y
unfolding base64_text
base64_same x y hx hy e =
    let back : Ok x ≡ decode_of standard (base64_text x) = sym (decode_of-encode_of standard x refl hx) in
    let same : Ok x ≡ Ok y = back ∙ (ap (decode_of standard) e ∙ decode_of-encode_of standard y refl hy) in
    cc same

pub base64_first : (x y r s : List ℕ) → IsBytes x → IsBytes y → base64_text x ++ (34 ∷ r) ≡ base64_text y ++ (34 ∷ s) → (x ≡ y) × (r ≡ s)
base64_first x y r s hx hy e =
    let both = span is_bare (base64_text x) (base64_text y) (34 ∷ r) (34 ∷ s) (base64_bare x) (base64_bare y) refl refl e in
    (base64_same x y hx hy both.0, ap (drop 1) both.1)
