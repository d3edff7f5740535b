-- What holds of each tally as it is kept. Only this crate's proofs cite this.
use Rattle.std.specs.Prelude.{ℕ, ◌≡◌, ◌<◌, Bool, List, length}
use Rattle.esm_shard_index.specs.declared.progress.FateCounts.{FateCounts}
use Rattle.esm_shard_index.specs.FateCounts.{total}
use Rattle.esm_shard_index.specs.Progress.{number_of, front_of}

-- the frontier and the counts are those of the records, and the number of records fits 32 bits
pub record IsTally (fated : List Bool) (counts : FateCounts) (frontier : ℕ) : Type 0 where
  pub front : frontier ≡ front_of fated
  pub all : total counts ≡ number_of fated
  pub few : length fated < 4294967296
