-- Padded digits: how many they are, and the last of them.
use Rattle.std.proofs.Common.{◌≡◌, ℕ, zero, suc, ◌-◌, ◌/◌, ◌%◌, ◌<◌, [], ◌∷◌, ◌++◌, length, false, refl, arith, length-append}
use Rattle.std.specs.Fmt.{digit_glyph}
use Rattle.esm_model.specs.Numbers.{last_digits}

pub length-last_digits : (base width n : ℕ) → length (last_digits base width n) ≡ width
unfolding last_digits
length-last_digits base zero n = refl
length-last_digits base (suc width) n =
    omega (arith, length-append (last_digits base width (n / base)) (digit_glyph false (n % base) ∷ []), length-last_digits base width (n / base))

pub last_digits_none : (base n : ℕ) → last_digits base 0 n ≡ []
unfolding last_digits
last_digits_none base n = refl

pub last_digits_more : (base width n : ℕ) → 0 < width → last_digits base width n ≡ last_digits base (width - 1) (n / base) ++ digit_glyph false (n % base) ∷ []
unfolding last_digits
last_digits_more base zero n h = absurd (omega arith)
last_digits_more base (suc width) n h = let back : suc width - 1 ≡ width = omega arith in rw back
