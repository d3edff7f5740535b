-- The limits of an input, and its items up to the first that exceeds one. This product's own.
use Rattle.std.specs.Prelude.{ℕ, ◌+◌, ◌*◌, nat_le, nat_lt, List, [], ◌∷◌, ◌++◌, length, fold, Option, Some, None, if◌then◌else◌}
use Rattle.esm_model.specs.declared.limits.TheConstants.{MAX_RECORDS, MAX_INPUT, MAX_SHARDS, MAX_LANES}
use Rattle.esm_model.specs.Entries.{holds}
use Rattle.esm_model.specs.declared.item.Item.{Item}
use Rattle.esm_model.specs.declared.item.Item.TheVariants.{Stream, Queue}
use Rattle.esm_model.specs.declared.names.LimitName.{LimitName}
use Rattle.esm_model.specs.declared.names.LimitName.TheVariants.{Records, Bytes, Shards, Lanes}

-- the bytes of a record's data, or of a message's body
abbrev pub item_bytes : Item → ℕ
item_bytes (Stream r) = length r.payload
item_bytes (Queue m) = length m.body

-- the bytes of all the items
abbrev pub data_bytes : List Item → ℕ
data_bytes [] = 0
data_bytes (x ∷ xs) = item_bytes x + data_bytes xs

-- the shards of an input, in the order of first appearance, after one more item; a queue has none
abbrev pub shards_with : List ℕ → Item → List ℕ
shards_with before (Stream r) = if holds before r.shard then before else before ++ r.shard ∷ []
shards_with before (Queue m) = before

-- the shards of these items
abbrev pub shards_in : List Item → List ℕ
shards_in xs = fold shards_with [] xs

-- the first limit that one more item exceeds; each shard has `factor` lanes
abbrev pub passed : (factor : ℕ) → List Item → Item → Option LimitName
passed factor xs x =
    if nat_le MAX_RECORDS (length xs) then Some Records
    else if nat_lt MAX_INPUT (data_bytes xs + item_bytes x) then Some Bytes
    else if nat_lt MAX_SHARDS (length (shards_with (shards_in xs) x)) then Some Shards
    else if nat_lt MAX_LANES (length (shards_with (shards_in xs) x) * factor) then Some Lanes
    else None

-- the items within the limits, and the limit that the next item exceeds, if it does
pub record Limited : Type 0 where
  pub items : List Item
  pub limit : Option LimitName

abbrev pub stop_at : List Item → Option LimitName → Limited → Limited
stop_at before (Some limit) more = record { items = before; limit = Some limit }
stop_at before None more = more

-- the items before, and further ones up to the first that exceeds a limit
abbrev pub limited_after : (factor : ℕ) → List Item → List Item → Limited
limited_after factor before [] = record { items = before; limit = None }
limited_after factor before (x ∷ xs) = stop_at before (passed factor before x) (limited_after factor (before ++ x ∷ []) xs)
