-- Places that wait to be given, each until the one before it of its group is. This product's own; cited by this crate's
-- proofs alone.
use Rattle.std.specs.Prelude.{◌≡◌, ℕ, ◌≤◌, ◌==◌, ◌&&◌, ◌⊎◌, Bool, true, false, List, length, Option, Some, None, IfSome, nat_lt, nat_le, slice_index, if◌then◌else◌}

-- the least of the head and the places that wait
abbrev pub IsLeast : Option ℕ → (ℕ → Bool) → Option ℕ → Type 0
IsLeast head waits None = (head ≡ None) × ((k : ℕ) → waits k ≡ false)
IsLeast head waits (Some p) = ((head ≡ Some p) ⊎ (waits p ≡ true)) × IfSome head (λ h. p ≤ h) × ((k : ℕ) → waits k ≡ true → p ≤ k)

abbrev pub is_place : Option ℕ → ℕ → Bool
is_place None k = false
is_place (Some p) k = p == k

-- the next place, if its moment has come
abbrev pub next_shown : ℕ → List ℕ → ℕ → Option ℕ
next_shown m moments next = if nat_lt next (length moments) && nat_le (slice_index moments next) m then Some next else None
