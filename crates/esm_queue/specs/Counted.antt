-- How many places have a moment, by a map. This product's own; cited by this crate's proofs alone.
use Rattle.std.specs.Prelude.{◌≡◌, ℕ, ◌<◌, ◌≤◌, Some, IsSome, unwrap_or}
use Rattle.std.specs.Ordering.{nat_cmp}
use Rattle.std.specs.BTreeMap.{BTreeMap, get}

abbrev pub times : BTreeMap ℕ ℕ → ℕ → ℕ
times counts v = unwrap_or (get nat_cmp counts v) 0

-- a moment that no place has is not in the map, except for one
abbrev pub HasNoZeroBut : ℕ → BTreeMap ℕ ℕ → Type 0
HasNoZeroBut ready counts = (v : ℕ) → get nat_cmp counts v ≡ Some 0 → v ≡ ready

-- no further moment without a place gets into the map
abbrev pub AddsNoZero : BTreeMap ℕ ℕ → BTreeMap ℕ ℕ → Type 0
AddsNoZero old new = (v : ℕ) → get nat_cmp new v ≡ Some 0 → get nat_cmp old v ≡ Some 0

-- this moment is not in the map without a place
abbrev pub LeavesNoZero : BTreeMap ℕ ℕ → ℕ → Type 0
LeavesNoZero counts moment = get nat_cmp counts moment ≡ Some 0 → ⊥

-- each moment in the map stays there
abbrev pub KeepsKeys : BTreeMap ℕ ℕ → BTreeMap ℕ ℕ → Type 0
KeepsKeys old new = (v : ℕ) → IsSome (get nat_cmp old v) → IsSome (get nat_cmp new v)

-- each but one stays as it is
abbrev pub KeepsOtherKeys : ℕ → BTreeMap ℕ ℕ → BTreeMap ℕ ℕ → Type 0
KeepsOtherKeys moment old new = (v : ℕ) → (v ≡ moment → ⊥) → get nat_cmp new v ≡ get nat_cmp old v

-- the first moment after `at` that is in the map
pub record IsNextKey (counts : BTreeMap ℕ ℕ) (at k : ℕ) : Type 0 where
  pub after : at < k
  pub has : IsSome (get nat_cmp counts k)
  pub low : (q : ℕ) → at < q → IsSome (get nat_cmp counts q) → k ≤ q
