-- A byte by two hexadecimal digits.
use Rattle.std.proofs.Common.{◌≡◌, ℕ, ◌/◌, ◌%◌, ◌<◌, arith, false, ap, [], ◌∷◌}
use Rattle.std.specs.Fmt.{digit_glyph}
use Rattle.esm_model.specs.Numbers.{last_digits, padded_hexadecimal}

pub two_digits : (x : ℕ) → x < 256 → padded_hexadecimal 2 x ≡ digit_glyph false (x / 16) ∷ digit_glyph false (x % 16) ∷ []
unfolding last_digits
two_digits x h =
    let high : x / 16 % 16 ≡ x / 16 = omega (arith, h) in
    ap (λ (d : ℕ). digit_glyph false d ∷ digit_glyph false (x % 16) ∷ []) high
