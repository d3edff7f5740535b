-- A list of records in parts, one for each shard. Source: the Lambda Developer Guide, event filtering for Kinesis (a record
-- that does not pass is not sent to the function).
use Rattle.std.specs.Prelude.{◌≡◌, ℕ, ◌+◌, ◌<◌, ◌≤◌, Bool, ◌&&◌, is_none, All, List, [], ◌∷◌, map, length, if◌then◌else◌}
use Rattle.esm_model.specs.Records.{Record}
use Rattle.esm_model.specs.declared.entry.Entry.{Entry}
use Rattle.esm_model.specs.Setting.{Setting, Stream, found_fate}
use Rattle.esm_model.specs.Entries.{came_count}
use Rattle.esm_model.specs.Owed.{is_refused}
use Rattle.esm_ledger.specs.Coming.{with_list}
use Rattle.esm_ingest.specs.declared.parts.ShardRecords.{ShardRecords}
use Rattle.esm_ingest.specs.Coming.{shards_of, of_shard}

-- the shard's record at the place has no found fate and does not pass the filter
abbrev pub is_refused_at : Setting → ℕ → ℕ → Record → Bool
is_refused_at s n place r = is_none (found_fate s n place) && is_refused s r

-- the places of such records, from the place on
abbrev pub refused_from : Setting → ℕ → ℕ → List Record → List ℕ
refused_from s n place [] = []
refused_from s n place (r ∷ rs) = if is_refused_at s n place r then place ∷ refused_from s n (place + 1) rs else refused_from s n (place + 1) rs

-- records of one shard that come, from the place `first` on, and the places of those that are refused
pub record Part : Type 0 where
  pub shard : ℕ
  pub first : ℕ
  pub records : List Record
  pub refused : List ℕ

-- the part of these records, which follow those of the shard that came
abbrev pub next_part : Setting → List Entry → ℕ → List Record → Part
next_part s h n rs = record { shard = n; first = came_count h n; records = rs; refused = refused_from s n (came_count h n) rs }

-- the part of the shard: its records among those of the list
abbrev pub part_in : Setting → List Entry → List Record → ℕ → Part
part_in s h rs n = next_part s h n (of_shard n rs)

-- one part for each shard of the list, in order of first appearance
abbrev pub parts_of : Setting → List Entry → List Record → List Part
parts_of s h rs = map (part_in s h rs) (shards_of rs)

-- as lists
abbrev pub part : ShardRecords → Part
part p = record { shard = p.shard; first = p.first; records = p.records.items; refused = p.refused }

-- what a ledger asks of the records of a shard that are to come
pub record CanCome (h : List Entry) (p : Part) : Type 0 where
  pub some : 1 ≤ length p.records
  pub shard : All (λ (r : Record). r.shard ≡ p.shard) p.records
  pub first : p.first ≡ came_count h p.shard
  pub few : came_count h p.shard + length p.records < 4294967296

-- the streams, grown part by part
abbrev pub grown_by : List Stream → List Part → List Stream
grown_by ts [] = ts
grown_by ts (p ∷ ps) = grown_by (with_list ts p.shard p.records) ps
