-- The nodes of a tree of moments: node 1 is the root, those below node k are 2k and 2k + 1, and the last `width` ones
-- are the leaves. This product's own; cited by this crate's proofs alone.
use Rattle.std.specs.Prelude.{◌≡◌, ℕ, ◌+◌, ◌*◌, ◌<◌, ◌≤◌, List, min, slice_index}

-- each inner node, except for one, has the lesser of the two below it
abbrev pub HasLeast : ℕ → ℕ → List ℕ → Type 0
HasLeast but width nodes = (k : ℕ) → 1 ≤ k → k < width → (k ≡ but → ⊥) → slice_index nodes k ≡ min (slice_index nodes (2 * k)) (slice_index nodes (2 * k + 1))

-- among the leaves from low to high the first from `from` on with a moment that is not after `at`
pub record IsFirstLeaf (nodes : List ℕ) (low high from at leaf : ℕ) : Type 0 where
  pub not_below : low ≤ leaf
  pub below : leaf < high
  pub not_before : from ≤ leaf
  pub reached : slice_index nodes leaf ≤ at
  pub first : (i : ℕ) → low ≤ i → from ≤ i → i < leaf → at < slice_index nodes i

-- there is none
abbrev pub NoLeaf : List ℕ → ℕ → ℕ → ℕ → ℕ → Type 0
NoLeaf nodes low high from at = (i : ℕ) → low ≤ i → i < high → from ≤ i → at < slice_index nodes i
