-- The entries of a list of records that comes: one `Came` for each shard, then what the filter gives. Source: the Lambda
-- Developer Guide, event filtering for Kinesis.
use Rattle.std.specs.Prelude.{ℕ, List, [], ◌∷◌, ◌++◌, map, length, None}
use Rattle.esm_model.specs.Records.{Record}
use Rattle.esm_model.specs.declared.entry.Fate.TheVariants.{Filtered}
use Rattle.esm_model.specs.declared.entry.Entry.{Entry}
use Rattle.esm_model.specs.declared.entry.Entry.TheVariants.{Came, Gave}
use Rattle.esm_model.specs.Setting.{Setting}
use Rattle.esm_ingest.specs.Parts.{Part, parts_of}

-- the history, newest entry first, with the entries added one after another
abbrev pub with_entries : List Entry → List Entry → List Entry
with_entries h [] = h
with_entries h (e ∷ es) = with_entries (e ∷ h) es

-- the records of the part come
abbrev pub came_part : ℕ → Part → Entry
came_part m p = Came p.shard p.first (length p.records) m

abbrev pub came_parts : ℕ → List Part → List Entry
came_parts m ps = map (came_part m) ps

-- the places are filtered, if there are any
abbrev pub filtered_at : ℕ → ℕ → List ℕ → List Entry
filtered_at m n [] = []
filtered_at m n (i ∷ places) = Gave None n (i ∷ places) Filtered None None m ∷ []

-- the refused places of each part
abbrev pub filtered_parts : ℕ → List Part → List Entry
filtered_parts m [] = []
filtered_parts m (p ∷ ps) = filtered_at m p.shard p.refused ++ filtered_parts m ps

-- all of them, oldest first
abbrev pub part_entries : ℕ → List Part → List Entry
part_entries m ps = came_parts m ps ++ filtered_parts m ps

-- those of a list of records
abbrev pub arrival_entries : Setting → List Entry → List Record → ℕ → List Entry
arrival_entries s h rs m = part_entries m (parts_of s h rs)
