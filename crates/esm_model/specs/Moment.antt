-- Moments: milliseconds since 1970-01-01T00:00:00Z. The end is this product's own: the last that a date with a year of four
-- digits can show, 9999-12-31T23:59:59.999Z.
use Rattle.std.specs.Prelude.{ℕ, ◌+◌, min}
use Rattle.esm_model.specs.declared.moment.TheConstants.{MAX_MOMENT}

-- a moment that a caller gives, capped at the end
abbrev pub capped_moment : ℕ → ℕ
capped_moment m = min m MAX_MOMENT

-- the moment n milliseconds after m, capped at the end
abbrev pub moment_after : ℕ → ℕ → ℕ
moment_after m n = min (m + n) MAX_MOMENT
