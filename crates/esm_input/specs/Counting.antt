-- What is counted of an input's items, and the limits of the counts. Only this crate's proofs cite this.
use Rattle.std.specs.Prelude.{◌≡◌, ℕ, ◌+◌, ◌*◌, ◌≤◌, nat_le, nat_lt, List, ◌++◌, length, take, Option, Some, None, if◌then◌else◌}
use Rattle.esm_model.specs.declared.limits.TheConstants.{MAX_RECORDS, MAX_INPUT, MAX_SHARDS, MAX_LANES}
use Rattle.esm_model.specs.declared.item.Item.{Item}
use Rattle.esm_model.specs.declared.names.LimitName.{LimitName}
use Rattle.esm_model.specs.declared.names.LimitName.TheVariants.{Records, Bytes, Shards, Lanes}
use Rattle.esm_input.specs.Limits.{item_bytes, data_bytes, shards_with, shards_in, limited_after}
use Rattle.esm_input.specs.declared.counted.Counted.{Counted}

-- these are the counts of the items
pub record IsCountOf (c : Counted) (xs : List Item) : Type 0 where
  pub items : c.items ≡ length xs
  pub bytes : c.bytes ≡ data_bytes xs
  pub shards : c.shards.items ≡ shards_in xs

-- no count exceeds its limit
pub record IsWithin (c : Counted) : Type 0 where
  pub items : c.items ≤ MAX_RECORDS
  pub bytes : c.bytes ≤ MAX_INPUT
  pub shards : length c.shards.items ≤ MAX_SHARDS

-- the first limit that one more item exceeds, after those counted
abbrev pub passed_by : (factor : ℕ) → Counted → Item → Option LimitName
passed_by factor c x =
    if nat_le MAX_RECORDS c.items then Some Records
    else if nat_lt MAX_INPUT (c.bytes + item_bytes x) then Some Bytes
    else if nat_lt MAX_SHARDS (length (shards_with c.shards.items x)) then Some Shards
    else if nat_lt MAX_LANES (length (shards_with c.shards.items x) * factor) then Some Lanes
    else None

-- one more item was counted
pub record CountsMore (old new : Counted) (x : Item) : Type 0 where
  pub items : new.items ≡ old.items + 1
  pub bytes : new.bytes ≡ old.bytes + item_bytes x
  pub shards : new.shards.items ≡ shards_with old.shards.items x

-- the first `count` of the next items are within the limits; this is the limit that the one after them exceeds, if it does
abbrev pub IsFront : (factor : ℕ) → Counted → List Item → (count : ℕ) → Option LimitName → Type 0
IsFront factor c items count limit =
    (xs : List Item) → IsCountOf c xs → limited_after factor xs items ≡ record { items = xs ++ take count items; limit = limit }

-- the next items were counted in addition to those counted before
abbrev pub CountsOn : (old new : Counted) → List Item → Type 0
CountsOn old new items = (xs : List Item) → IsCountOf old xs → IsCountOf new (xs ++ items)
