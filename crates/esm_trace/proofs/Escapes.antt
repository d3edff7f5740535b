-- A text between quotation marks tells its bytes: each escape tells what it stands for.
use Rattle.std.proofs.Common.{◌≡◌, ◌∙◌, ℕ, ◌+◌, ◌-◌, ◌*◌, ◌/◌, ◌%◌, ◌<◌, ◌==◌, nat_lt, Bool, true, false, cond, if◌then◌else◌, refl, sym, ap, subst, List, [], ◌∷◌, ◌++◌, append_assoc, drop, codes, slice_index, None, arith}
use Rattle.std.specs.Fmt.{digit_glyph}
use Rattle.std.specs.List.{flat_map}
use Rattle.std.proofs.lemmas.Bool.Decides.{nat_tests}
use Rattle.esm_model.specs.JsonText.{escape_letter, escaped_with, escaped_byte, quoted}
use Rattle.esm_model.specs.Numbers.{last_digits, padded_hexadecimal}
use Rattle.esm_trace.proofs.Cutting.{first, apart, cons_same}

-- what stands behind a backslash stands for
abbrev letter_value : ℕ → ℕ
letter_value l =
    if l == 98 then 8
    else (if l == 102 then 12
    else (if l == 110 then 10
    else (if l == 114 then 13
    else (if l == 116 then 9
    else l))))

abbrev hex_value : ℕ → ℕ
hex_value g = if nat_lt g 58 then g - 48 else g - 87

-- the byte that a text's first character or escape stands for
abbrev value : List ℕ → ℕ
value text =
    if slice_index text 0 == 92
    then (if slice_index text 1 == 117 then 16 * hex_value (slice_index text 4) + hex_value (slice_index text 5) else letter_value (slice_index text 1))
    else slice_index text 0

-- how many bytes that takes
abbrev size : List ℕ → ℕ
size text = if slice_index text 0 == 92 then (if slice_index text 1 == 117 then 6 else 2) else 1

-- a text that begins with t tells x, and goes on with r
abbrev Tells : ℕ → List ℕ → List ℕ → Type 0
Tells x t r = (value (t ++ r) ≡ x) × (drop (size (t ++ r)) (t ++ r) ≡ r)

is_equal : (x k : ℕ) → (x == k) ≡ true → x ≡ k
is_equal x k h = grind (arith, nat_tests)

known : (k x : ℕ) (r : List ℕ) → (x == k) ≡ true → Tells k (escaped_byte k) r → Tells x (escaped_byte x) r
known k x r h told = subst (λ y. Tells y (escaped_byte y) r) (sym (is_equal x k h)) told

hex_by : (b : Bool) (d : ℕ) → nat_lt d 10 ≡ b → d < 16 → hex_value (cond b (48 + d) (87 + d)) ≡ d
hex_by true d e h = let below : nat_lt (48 + d) 58 ≡ true = grind (arith, nat_tests) in rw below (omega arith)
hex_by false d e h = let above : nat_lt (87 + d) 58 ≡ false = grind (arith, nat_tests) in rw above (omega arith)

hex_back : (d : ℕ) → d < 16 → hex_value (digit_glyph false d) ≡ d
hex_back d h = hex_by (nat_lt d 10) d refl h

hex_low : (x : ℕ) → x < 32 → 16 * hex_value (digit_glyph false (x / 16 % 16)) + hex_value (digit_glyph false (x % 16)) ≡ x
hex_low x h =
    let high_digit = hex_back (x / 16 % 16) (omega arith) in
    let low_digit = hex_back (x % 16) (omega arith) in
    omega (arith, high_digit, low_digit)

-- a byte without a short escape
without : (x : ℕ) (r : List ℕ) (b : Bool) → nat_lt x 32 ≡ b → (x == 92) ≡ false → Tells x (if b then codes "\\u00" ++ padded_hexadecimal 2 x else x ∷ []) r
unfolding last_digits
without x r true h plain = let below : x < 32 = grind (arith, nat_tests) in (hex_low x below, refl)
without x r false h plain = (rw plain refl, rw plain refl)

no_letter : (x : ℕ) (r : List ℕ) → escape_letter x ≡ None → (x == 92) ≡ false → Tells x (escaped_byte x) r
unfolding escaped_byte
no_letter x r none plain = subst (λ o. Tells x (escaped_with o x) r) (sym none) (without x r (nat_lt x 32) refl plain)

at_tab : (x : ℕ) (r : List ℕ) → (x == 34) ≡ false → (x == 92) ≡ false → (x == 8) ≡ false → (x == 12) ≡ false → (x == 10) ≡ false → (x == 13) ≡ false → (b : Bool) → (x == 9) ≡ b → Tells x (escaped_byte x) r
unfolding escaped_byte
at_tab x r h1 h2 h3 h4 h5 h6 true h = known 9 x r h (refl, refl)
at_tab x r h1 h2 h3 h4 h5 h6 false h = no_letter x r (rw (h1, h2, h3, h4, h5, h6, h) refl) h2

at_return : (x : ℕ) (r : List ℕ) → (x == 34) ≡ false → (x == 92) ≡ false → (x == 8) ≡ false → (x == 12) ≡ false → (x == 10) ≡ false → (b : Bool) → (x == 13) ≡ b → Tells x (escaped_byte x) r
unfolding escaped_byte
at_return x r h1 h2 h3 h4 h5 true h = known 13 x r h (refl, refl)
at_return x r h1 h2 h3 h4 h5 false h = at_tab x r h1 h2 h3 h4 h5 h (x == 9) refl

at_feed : (x : ℕ) (r : List ℕ) → (x == 34) ≡ false → (x == 92) ≡ false → (x == 8) ≡ false → (x == 12) ≡ false → (b : Bool) → (x == 10) ≡ b → Tells x (escaped_byte x) r
unfolding escaped_byte
at_feed x r h1 h2 h3 h4 true h = known 10 x r h (refl, refl)
at_feed x r h1 h2 h3 h4 false h = at_return x r h1 h2 h3 h4 h (x == 13) refl

at_page : (x : ℕ) (r : List ℕ) → (x == 34) ≡ false → (x == 92) ≡ false → (x == 8) ≡ false → (b : Bool) → (x == 12) ≡ b → Tells x (escaped_byte x) r
unfolding escaped_byte
at_page x r h1 h2 h3 true h = known 12 x r h (refl, refl)
at_page x r h1 h2 h3 false h = at_feed x r h1 h2 h3 h (x == 10) refl

at_back : (x : ℕ) (r : List ℕ) → (x == 34) ≡ false → (x == 92) ≡ false → (b : Bool) → (x == 8) ≡ b → Tells x (escaped_byte x) r
unfolding escaped_byte
at_back x r h1 h2 true h = known 8 x r h (refl, refl)
at_back x r h1 h2 false h = at_page x r h1 h2 h (x == 12) refl

at_slash : (x : ℕ) (r : List ℕ) → (x == 34) ≡ false → (b : Bool) → (x == 92) ≡ b → Tells x (escaped_byte x) r
unfolding escaped_byte
at_slash x r h1 true h = known 92 x r h (refl, refl)
at_slash x r h1 false h = at_back x r h1 h (x == 8) refl

at_quote : (x : ℕ) (r : List ℕ) (b : Bool) → (x == 34) ≡ b → Tells x (escaped_byte x) r
unfolding escaped_byte
at_quote x r true h = known 34 x r h (refl, refl)
at_quote x r false h = at_slash x r h (x == 92) refl

escaped : (x : ℕ) (r : List ℕ) → Tells x (escaped_byte x) r
escaped x r = at_quote x r (x == 34) refl

-- no escape begins with a quotation mark
no_end : (y : ℕ) (t r : List ℕ) → 34 ∷ r ≡ escaped_byte y ++ t → ⊥
unfolding escaped_byte
no_end y t r e =
    let is : 34 ≡ y = ap value e ∙ (escaped y t).0 in
    let escape : 34 ∷ r ≡ escaped_byte 34 ++ t = subst (λ z. 34 ∷ r ≡ escaped_byte z ++ t) (sym is) e in
    apart 34 92 refl (ap first escape)

bytes_first : (t u r s : List ℕ) → flat_map escaped_byte t ++ (34 ∷ r) ≡ flat_map escaped_byte u ++ (34 ∷ s) → (t ≡ u) × (r ≡ s)
bytes_first [] [] r s e = (refl, ap (drop 1) e)
bytes_first [] (y ∷ u) r s e =
    absurd (no_end y (flat_map escaped_byte u ++ (34 ∷ s)) r (e ∙ append_assoc (escaped_byte y) (flat_map escaped_byte u) (34 ∷ s)))
bytes_first (x ∷ t) [] r s e =
    absurd (no_end x (flat_map escaped_byte t ++ (34 ∷ r)) s (sym e ∙ append_assoc (escaped_byte x) (flat_map escaped_byte t) (34 ∷ r)))
bytes_first (x ∷ t) (y ∷ u) r s e =
    let one = escaped x (flat_map escaped_byte t ++ (34 ∷ r)) in
    let other = escaped y (flat_map escaped_byte u ++ (34 ∷ s)) in
    let next : escaped_byte x ++ (flat_map escaped_byte t ++ (34 ∷ r)) ≡ escaped_byte y ++ (flat_map escaped_byte u ++ (34 ∷ s)) =
    sym (append_assoc (escaped_byte x) (flat_map escaped_byte t) (34 ∷ r)) ∙ (e ∙ append_assoc (escaped_byte y) (flat_map escaped_byte u) (34 ∷ s)) in
    let rest = bytes_first t u r s (sym one.1 ∙ (ap (λ text. drop (size text) text) next ∙ other.1)) in
    (cons_same x y t u (sym one.0 ∙ (ap value next ∙ other.0)) rest.0, rest.1)

pub quoted_first : (t u r s : List ℕ) → quoted t ++ r ≡ quoted u ++ s → (t ≡ u) × (r ≡ s)
quoted_first t u r s e =
    bytes_first t u r s
    (sym (append_assoc (flat_map escaped_byte t) (codes "\"") r) ∙ (ap (drop 1) e ∙ append_assoc (flat_map escaped_byte u) (codes "\"") s))
