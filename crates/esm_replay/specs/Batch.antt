-- The records of the next call, by their positions among the records that arrived. This product's own.
use Rattle.std.specs.Prelude.{◌≡◌, ℕ, suc, ◌+◌, ◌<◌, ◌≤◌, Bool, List, [], ◌∷◌, length, take, drop, filter_map, slice_get, Option, Some, None, option_and_then}
use Rattle.std.specs.List.{All}
use Rattle.esm_model.specs.declared.config.Config.{Config}
use Rattle.esm_model.specs.Records.{Record}
use Rattle.esm_model.specs.Setting.{records_at}
use Rattle.esm_model.specs.Batches.{longest}
use Rattle.esm_replay_model.specs.ReplaySetting.{ReplaySetting, config_of}
use Rattle.esm_replay_model.specs.Pieces.{piece, replay_fits, next_call}
use Rattle.esm_replay.specs.declared.rows.Named.{Named}
use Rattle.esm_replay.specs.declared.batch.Batch.{Batch}
use Rattle.esm_replay.specs.declared.batch_records.BatchRecords.{BatchRecords}
use Rattle.esm_replay.specs.declared.batch_records.BatchRecords.TheVariants.{InRow, Copied}
use Rattle.esm_replay.specs.Rows.{places_of, Stands}
use Rattle.esm_replay.specs.Waiting.{NamedPiece, seen_pieces}

abbrev pub records_named : List Record → List Named → List Record
records_named rs ds = filter_map (λ (d : Named). slice_get rs d.at) ds

-- the record of the named one at this index
abbrev pub record_named : List Record → List Named → ℕ → Option Record
record_named rs ds i = option_and_then (λ (d : Named). slice_get rs d.at) (slice_get ds i)

-- the named records follow each other among the records that arrived, from this position on
abbrev pub StandInRow : ℕ → List Named → Type 0
StandInRow first [] = Unit {0}
StandInRow first (d ∷ ds) = (d.at ≡ first) × StandInRow (suc first) ds

-- the records that `count` gathered ones stand for
abbrev pub records_in : List Record → ℕ → BatchRecords → List Record
records_in rs count (InRow first) = take count (drop first rs)
records_in rs count (Copied copies) = copies.items

abbrev pub batch_records : List Record → Batch → List Record
batch_records rs batch = records_in rs (length batch.places) batch.records

-- a row of `count` records is within `n` records
abbrev pub IsRowWithin : ℕ → ℕ → BatchRecords → Type 0
IsRowWithin n count (InRow first) = first + count ≤ n
IsRowWithin n count (Copied copies) = Unit {0}

abbrev pub IsAmong : ℕ → Batch → Type 0
IsAmong n batch = IsRowWithin n (length batch.places) batch.records

-- whether a call of the shard's records at these places is within both limits: batch size and event length
abbrev pub fits_for : ReplaySetting → ℕ → List ℕ → Bool
fits_for s n places = replay_fits s (piece n places)

-- the named records have the positions that they state, among the records that arrived
pub record IsPlacedIn (s : ReplaySetting) (config : Config) (rs : List Record) (n : ℕ) (ds : List Named) : Type 0 where
  pub config_is : config_of s ≡ config
  pub stand : All (Stands s rs n) ds

-- the next call of a piece with these named records of the shard
abbrev pub IsBatchOf : ReplaySetting → List Record → ℕ → List Named → Batch → Type 0
IsBatchOf s rs n ds batch =
    (batch.shard ≡ n) × (batch.places ≡ longest (fits_for s n) [] (places_of ds)) × (batch_records rs batch ≡ records_at s.base n batch.places) × (1 ≤ length batch.places)

-- the next call, which is of the first piece; there is one if and only if something waits
abbrev pub IsNextBatch : ReplaySetting → List Record → List NamedPiece → Option Batch → Type 0
IsNextBatch s rs pieces None = pieces ≡ []
IsNextBatch s rs pieces (Some batch) =
    (piece batch.shard batch.places ≡ next_call s (seen_pieces pieces)) × (batch_records rs batch ≡ records_at s.base batch.shard batch.places) × (1 ≤ length batch.places)

-- each named record has a position below `n`
abbrev pub AreWithin : ℕ → List Named → Type 0
AreWithin n ds = All (λ (d : Named). d.at < n) ds

abbrev pub StandWithin : ℕ → List NamedPiece → Type 0
StandWithin n pieces = All (λ (p : NamedPiece). AreWithin n p.named) pieces
