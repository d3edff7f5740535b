-- Numbers as texts. `decimal n` is std's: the decimal digits of n, without leading zeros.
use Rattle.std.specs.Prelude.{ℕ, zero, suc, ◌/◌, ◌%◌, List, [], ◌∷◌, ◌++◌, false}
use Rattle.std.specs.Fmt.{digit_glyph}
pub use Rattle.std.specs.Fmt.{decimal}

-- the last `width` digits of n in the base, with zeros before a shorter number; the digits above 9 are `a` to `f`
unfoldable pub last_digits : ℕ → ℕ → ℕ → List ℕ
last_digits base zero n = []
last_digits base (suc width) n = last_digits base width (n / base) ++ digit_glyph false (n % base) ∷ []

-- decimal, padded with zeros to the width
abbrev pub padded_decimal : ℕ → ℕ → List ℕ
padded_decimal width n = last_digits 10 width n

-- lower-case hexadecimal, padded with zeros to the width
abbrev pub padded_hexadecimal : ℕ → ℕ → List ℕ
padded_hexadecimal width n = last_digits 16 width n
