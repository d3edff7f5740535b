-- The open places of a lane. This product's own.
use Rattle.std.specs.Prelude.{ℕ, List}

-- the places in order, and how many more fit into the reserved memory
pub record Open : Type 0 where
  pub places : List ℕ
  pub spare : ℕ
