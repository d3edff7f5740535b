-- What a list of records of several shards leaves, shard by shard. Source: the Kinesis Data Streams developer guide (the
-- records of a shard have an order, those of different shards none).
use Rattle.std.specs.Prelude.{ℕ, ◌+◌, ◌<◌, ◌==◌, not, List, [], ◌∷◌, ◌++◌, filter, length, if◌then◌else◌}
use Rattle.esm_model.specs.Records.{Record}
use Rattle.esm_model.specs.declared.entry.Entry.{Entry}
use Rattle.esm_model.specs.Setting.{Stream}
use Rattle.esm_model.specs.Entries.{came_count}

-- the record is the next of its shard
abbrev pub with_record : List Stream → Record → List Stream
with_record [] r = record { shard = r.shard; records = r ∷ [] } ∷ []
with_record (t ∷ ts) r = if t.shard == r.shard then record { shard = t.shard; records = t.records ++ r ∷ [] } ∷ ts else t ∷ with_record ts r

-- each of the records is the next of its shard, in order
abbrev pub with_records : List Stream → List Record → List Stream
with_records ts [] = ts
with_records ts (r ∷ rs) = with_records (with_record ts r) rs

-- the shards of the records, in order of first appearance
abbrev pub shards_of : List Record → List ℕ
shards_of [] = []
shards_of (r ∷ rs) = r.shard ∷ filter (λ n. not (n == r.shard)) (shards_of rs)

-- those of the records that are of the shard, in order
abbrev pub of_shard : ℕ → List Record → List Record
of_shard n rs = filter (λ (r : Record). r.shard == n) rs

-- how many of the records are of the shard
abbrev pub count_of : ℕ → List Record → ℕ
count_of n rs = length (of_shard n rs)

-- together with those that came, the records of each shard have places of 32 bits
abbrev pub FitPlaces : List Entry → List Record → Type 0
FitPlaces h rs = (n : ℕ) → came_count h n + count_of n rs < 4294967296
