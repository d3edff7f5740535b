-- How many records have each fate. This product's own.
use Rattle.std.specs.Prelude.{ℕ, ◌+◌, Option, Some, None}
use Rattle.esm_model.specs.declared.entry.Fate.{Fate}
use Rattle.esm_model.specs.declared.entry.Fate.TheVariants.{Succeeded, Filtered, Expired, Exhausted}
use Rattle.esm_shard_index.specs.declared.progress.FateCounts.{FateCounts}

-- the number of records with the fate
abbrev pub count_in : FateCounts → Fate → ℕ
count_in c Succeeded = c.succeeded
count_in c Filtered = c.filtered
count_in c Expired = c.expired
count_in c Exhausted = c.exhausted

-- the number of records with any fate
abbrev pub total : FateCounts → ℕ
total c = c.succeeded + c.filtered + c.expired + c.exhausted

-- one more record with the fate
abbrev pub with_one : FateCounts → Fate → FateCounts
with_one c Succeeded = record c { succeeded = c.succeeded + 1 }
with_one c Filtered = record c { filtered = c.filtered + 1 }
with_one c Expired = record c { expired = c.expired + 1 }
with_one c Exhausted = record c { exhausted = c.exhausted + 1 }

-- one more record, with this fate if there is one
abbrev pub counted : FateCounts → Option Fate → FateCounts
counted c None = c
counted c (Some f) = with_one c f
