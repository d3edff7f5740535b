-- Items within the limits of an input. This product's own.
use Rattle.std.specs.Prelude.{◌≡◌, ◌≤◌, ◌*◌, ℕ, Bool, List, ◌++◌, length}
use Rattle.esm_model.specs.declared.limits.TheConstants.{MAX_RECORDS, MAX_INPUT, MAX_SHARDS, MAX_LANES}
use Rattle.esm_model.specs.declared.config.Start.{Start}
use Rattle.esm_model.specs.declared.item.Item.{Item}
use Rattle.esm_model.specs.declared.item.LineKind.{LineKind}
use Rattle.esm_input.specs.Limits.{data_bytes, shards_in}
use Rattle.esm_input.specs.Positions.{from_start}
use Rattle.esm_input.specs.Reading.{items_read}

-- the items exceed no limit; each shard has `factor` lanes
pub record AreWithin (factor : ℕ) (xs : List Item) : Type 0 where
  pub few : length xs ≤ MAX_RECORDS
  pub bytes : data_bytes xs ≤ MAX_INPUT
  pub shards : length (shards_in xs) ≤ MAX_SHARDS
  pub lanes : length (shards_in xs) * factor ≤ MAX_LANES

-- every front of what an input hands out is within the limits
abbrev pub HandedWithin : Type 0
HandedWithin = (kind : LineKind) (factor : ℕ) (start : Start) (whole : Bool) (bytes : List ℕ) (came rest : List Item)
    → from_start start (items_read kind factor whole bytes).items ≡ came ++ rest → AreWithin factor came
