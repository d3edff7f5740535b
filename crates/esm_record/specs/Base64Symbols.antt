-- The symbols of base64 texts. Source: RFC 4648, table 1. Only this crate's proofs cite this.
use Rattle.std.specs.Prelude.{ℕ, ◌==◌, nat_le, Bool, ◌&&◌, ◌||◌}

-- `A` to `Z`, `a` to `z`, `0` to `9`, `+` and `/`
abbrev pub is_symbol : ℕ → Bool
is_symbol b = (nat_le 65 b && nat_le b 90) || (nat_le 97 b && nat_le b 122) || (nat_le 48 b && nat_le b 57) || (b == 43) || (b == 47)
