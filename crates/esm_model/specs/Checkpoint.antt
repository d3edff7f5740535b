-- The checkpoint of a shard. Source: the Lambda Developer Guide, event source mappings for Kinesis: the mapping checkpoints
-- to the highest sequence number of what is done.
use Rattle.std.specs.Prelude.{ℕ, List, length, drop, filter, take_while}
use Rattle.esm_model.specs.declared.entry.Entry.{Entry}
use Rattle.esm_model.specs.Setting.{Setting}
use Rattle.esm_model.specs.Fates.{has_fate, came_places}

-- the length of the longest prefix of the shard's arrived records that all have a fate
abbrev pub checkpoint : Setting → List Entry → ℕ → ℕ
checkpoint s h n = length (take_while (has_fate s h n) (came_places h n))

-- the number of the shard's arrived records that have a fate and are past the checkpoint
abbrev pub spread : Setting → List Entry → ℕ → ℕ
spread s h n = length (filter (has_fate s h n) (drop (checkpoint s h n) (came_places h n)))
