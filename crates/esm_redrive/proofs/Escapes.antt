-- Texts of JSON as this product writes them are those that `json` writes.
use Rattle.std.proofs.Common.{◌≡◌, ℕ, zero, suc, ◌+◌, ◌*◌, ◌<◌, ◌≤◌, Bool, true, ◌&&◌, nat_lt, List, [], ◌∷◌, ◌++◌, length, refl, sym, ap, ap₂, ◌∙◌, subst, inl, inr, arith, length-append, Option, None}
use Rattle.std.specs.Prelude.{codes, flat_map}
use Rattle.std.specs.Str.{bytes_eq}
use Rattle.std.proofs.lemmas.Bool.{and_parts, cases_Bool, cases_lt, cases_eq, ne_eqb, le-ltb, cond-false}
use Rattle.json.specs.Print as json
use Rattle.json.specs.Print.{escape_byte}
use Rattle.json.proofs.Printed.Strings.{escape_byte_plain}
use Rattle.esm_model.specs.Numbers.{last_digits, padded_hexadecimal}
use Rattle.esm_model.specs.JsonText.{escape_letter, escaped_with, escaped_byte, quoted}
use Rattle.esm_queue_model.proofs.Groups.{bytes_eq-true}

-- the bytes below n
abbrev same_below : ℕ → Bool
same_below zero = true
same_below (suc n) = bytes_eq (escaped_byte n) (json.escape_byte n) && same_below n

same_at : (n : ℕ) → same_below n ≡ true → (b : ℕ) → b < n → escaped_byte b ≡ json.escape_byte b
same_at zero e b low = absurd (omega arith)
same_at (suc n) e b low =
    let parts = and_parts _ _ e in
    elim (cases_eq b n) [
      | inl same ↦ (let here = bytes_eq-true (escaped_byte n) (json.escape_byte n) parts.0 in subst (λ x. escaped_byte x ≡ json.escape_byte x) (sym same) here)
      | inr other ↦ same_at n parts.1 b (omega arith)
    ]

ascii_same : same_below 128 ≡ true
unfolding escaped_byte last_digits escape_byte
ascii_same = refl

no_letter : (b : ℕ) → 128 ≤ b → escape_letter b ≡ None
no_letter b high =
    rw (ne_eqb b 34 (λ e. omega arith), ne_eqb b 92 (λ e. omega arith), ne_eqb b 8 (λ e. omega arith), ne_eqb b 12 (λ e. omega arith), ne_eqb b 10 (λ e. omega arith), ne_eqb b 13 (λ e. omega arith), ne_eqb b 9 (λ e. omega arith)) refl

pub high_plain : (b : ℕ) → 128 ≤ b → escaped_byte b ≡ b ∷ []
unfolding escaped_byte
high_plain b high =
    ap (λ (o : Option ℕ). escaped_with o b) (no_letter b high)
    ∙ cond-false (nat_lt b 32) (codes "\\u00" ++ padded_hexadecimal 2 b) (b ∷ []) (le-ltb b 32 (omega arith))

byte_same : (b : ℕ) → escaped_byte b ≡ json.escape_byte b
byte_same b = elim (cases_lt b 128) [
  | inl low ↦ same_at 128 ascii_same b low
  | inr high ↦ high_plain b high ∙ sym (escape_byte_plain b (λ e. omega arith) (λ e. omega arith) (omega arith))
]

text_same : (text : List ℕ) → flat_map escaped_byte text ≡ json.escape text
text_same [] = refl
text_same (b ∷ text) = ap₂ (λ (xs ys : List ℕ). xs ++ ys) (byte_same b) (text_same text)

pub quoted_same : (text : List ℕ) → quoted text ≡ json.quoted text
quoted_same text = ap (λ xs. 34 ∷ (xs ++ 34 ∷ [])) (text_same text)

-- lengths

byte_short : (b : ℕ) → length (json.escape_byte b) ≤ 6
unfolding escape_byte
byte_short b =
    elim (cases_Bool (nat_lt 0 (json.escape_letter b))) [
      | inl is ↦ rw is (omega arith)
      | inr none ↦ elim (cases_Bool (nat_lt b 32)) [ inl low ↦ rw (none, low) (omega arith) | inr high ↦ rw (none, high) (omega arith) ]
    ]

escape_short : (text : List ℕ) → length (json.escape text) ≤ 6 * length text
escape_short [] = omega arith
escape_short (b ∷ text) =
    let here = byte_short b in
    let rest = escape_short text in
    let parts : length (json.escape_byte b ++ json.escape text) ≡ length (json.escape_byte b) + length (json.escape text) = length-append (json.escape_byte b) (json.escape text) in
    omega (arith, here, rest, parts)

pub quoted_short : (text : List ℕ) → length (json.quoted text) ≤ 6 * length text + 2
quoted_short text =
    let rest = escape_short text in
    let parts : length (json.escape text ++ 34 ∷ []) ≡ length (json.escape text) + 1 = length-append (json.escape text) (34 ∷ []) in
    omega (arith, rest, parts)
