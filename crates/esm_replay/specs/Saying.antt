-- What holds of the payloads of a replay's run. This product's own.
use Rattle.std.specs.Prelude.{ℕ, ◌<◌, ◌^◌, length}
use Rattle.esm_model.specs.Setting.{Setting, records_of}

-- every shard has fewer than 2^32 records, since a payload has four bytes for a place
abbrev pub HaveFewRecords : Setting → Type 0
HaveFewRecords s = (n : ℕ) → length (records_of s n) < 2 ^ 32
