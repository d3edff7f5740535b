-- Counts of faults. This product's own: an answer that blames an outside object requires that this object's count rises, so
-- code cannot give such an answer without a fault.
use Rattle.std.specs.Prelude.{ℕ, ◌≤◌, ◌<◌}

-- the greatest count, at which it stays
abbrev pub MAX_FAULTS : ℕ
MAX_FAULTS = 18446744073709551615

-- over a call, a count never falls
pub record IsCount (before now : ℕ) : Type 0 where
  pub never_falls : before ≤ now
  pub greatest : now ≤ MAX_FAULTS

-- the count rose, or has its greatest value
abbrev pub Rose : ℕ → ℕ → Type 0
Rose before now = now < MAX_FAULTS → before < now
