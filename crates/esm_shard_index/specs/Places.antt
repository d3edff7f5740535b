-- Places of a shard. This product's own.
use Rattle.std.specs.Prelude.{ℕ, zero, suc, List, [], ◌∷◌}

-- this many places from one on, in order
abbrev pub places_from : ℕ → ℕ → List ℕ
places_from first zero = []
places_from first (suc k) = first ∷ places_from (suc first) k
