-- The failure line of a DynamoDB stream's records. Source: the Lambda Developer Guide, "Using Lambda with DynamoDB" (an
-- on-failure destination gets `DDBStreamBatchInfo` where it gets `KinesisBatchInfo` of a Kinesis stream).
use Rattle.std.specs.Prelude.{ℕ, suc, ◌+◌, ◌≤◌, nat_eq, nat_lt, List, [], ◌∷◌, ◌++◌, codes, drop, length, take, Option, Some, None, option_map, if◌then◌else◌}
use Rattle.std.specs.List.{starts_with}
use Rattle.esm_model.specs.declared.limits.TheConstants.{MAX_PAYLOAD}

abbrev pub stream_part : List ℕ
stream_part = codes "\"KinesisBatchInfo\":"

abbrev pub table_part : List ℕ
table_part = codes "\"DDBStreamBatchInfo\":"

-- where this part occurs first
abbrev pub first_place : List ℕ → List ℕ → Option ℕ
first_place part [] = None
first_place part (b ∷ bytes) = if starts_with nat_eq (b ∷ bytes) part then Some 0 else option_map suc (first_place part bytes)

abbrev pub renamed_at : List ℕ → Option ℕ → List ℕ
renamed_at line None = line
renamed_at line (Some at) = take at line ++ (table_part ++ drop (at + length stream_part) line)

-- a line that would become too long is unchanged
unfoldable pub ddb_line : List ℕ → List ℕ
ddb_line line = if nat_lt MAX_PAYLOAD (length line + 2) then line else renamed_at line (first_place stream_part line)

-- room for a line of `n` bytes: in a buffer of this capacity for the changed line, and in the destination below
abbrev pub HasRoomBeside : (ℕ → Type 0) → ℕ → ℕ → Type 0
HasRoomBeside has_room capacity n = ((k : ℕ) → k ≤ n + 2 → has_room k) × (n + 2 ≤ capacity)
