-- The named records of each shard, as they are gathered from the records that arrived. This product's own.
use Rattle.std.specs.Prelude.{◌≡◌, ℕ, ◌+◌, ◌≤◌, Bool, true, false, List, [], ◌∷◌, ◌++◌, map, filter, length, take, slice_get, Option, Some, None}
use Rattle.std.specs.List.{All}
use Rattle.esm_model.specs.Records.{Record}
use Rattle.esm_model.specs.Setting.{record_at}
use Rattle.esm_model.specs.Fates.{below}
use Rattle.esm_replay_model.specs.ReplaySetting.{ReplaySetting, is_named}
use Rattle.esm_replay.specs.Records.{of_shard}
use Rattle.esm_replay.specs.declared.rows.Named.{Named}
use Rattle.esm_replay.specs.declared.rows.Row.{Row}

abbrev pub places_of : List Named → List ℕ
places_of ds = map (λ (d : Named). d.place) ds

-- the same record is at the named one's place of the shard and at its position among the records that arrived
pub record Stands (s : ReplaySetting) (rs : List Record) (n : ℕ) (d : Named) : Type 0 where
  pub own : Record
  pub among : slice_get rs d.at ≡ Some own
  pub there : record_at s.base n d.place ≡ Some own

-- the row of a shard whose first `count` places have arrived: it has the named ones of them
pub record IsRow (s : ReplaySetting) (rs : List Record) (n count : ℕ) (row : Row) : Type 0 where
  pub came : row.came ≡ count
  pub some : 1 ≤ count
  pub places : places_of row.named.items ≡ filter (is_named s n) (below count)
  pub stand : All (Stands s rs n) row.named.items

-- a shard without a row has no record
abbrev pub IsRowAt : ReplaySetting → List Record → ℕ → ℕ → Option Row → Type 0
IsRowAt s rs n count None = count ≡ 0
IsRowAt s rs n count (Some row) = IsRow s rs n count row

-- how many of the first `i` records are of the shard
abbrev pub count_in : ℕ → List Record → ℕ → ℕ
count_in n rs i = length (of_shard n (take i rs))

-- what a shard has, with or without a row

abbrev pub came_in : Option Row → ℕ
came_in None = 0
came_in (Some row) = row.came

abbrev pub named_in : Option Row → List Named
named_in None = []
named_in (Some row) = row.named.items

abbrev pub newly : Bool → ℕ → ℕ → List Named
newly true place at = record { place = place; at = at } ∷ []
newly false place at = []

-- one more record of the shard arrived, which is named or not
abbrev pub IsGrown : Bool → ℕ → Option Row → Row → Type 0
IsGrown is_named at old row = (row.came ≡ came_in old + 1) × (row.named.items ≡ named_in old ++ newly is_named (came_in old) at)

abbrev pub IsGrownAt : Bool → ℕ → Option Row → Option Row → Type 0
IsGrownAt is_named at old None = ⊥
IsGrownAt is_named at old (Some row) = IsGrown is_named at old row
