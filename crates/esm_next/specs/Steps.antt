-- What the walk over the items keeps. Only this crate's proofs cite this.
use Rattle.std.specs.Prelude.{◌≡◌, ℕ, ◌+◌, ◌≤◌, false, List, take, sum_by, All}
use Rattle.esm_next.specs.declared.piece.SizedItem.{SizedItem}
use Rattle.esm_next.specs.declared.piece.Limits.{Limits}
use Rattle.esm_next.specs.Cuts.{is_expired}

-- the batch of the window with this start may take the item; its items have `used` bytes, with a comma each
pub record GoesOn (limits : Limits) (now start used : ℕ) (item : SizedItem) : Type 0 where
  pub payload : used + item.bytes ≤ limits.payload
  pub window : item.window ≡ start
  pub fresh : is_expired limits.age_ms now item ≡ false

-- the first `count` items, which have `used` bytes with a comma each, meet the limits
pub record IsTaken (limits : Limits) (now start : ℕ) (items : List SizedItem) (count used : ℕ) : Type 0 where
  pub size : count ≤ limits.count
  pub bytes : used ≡ sum_by (λ (item : SizedItem). item.bytes) (take count items) + count
  pub payload : used ≤ limits.payload + 1
  pub window : All (λ (item : SizedItem). item.window ≡ start) (take count items)
  pub fresh : All (λ (item : SizedItem). is_expired limits.age_ms now item ≡ false) (take count items)
