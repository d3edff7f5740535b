-- The records of a list as they are gathered by their shards. Only this crate's proofs cite this.
use Rattle.std.specs.Prelude.{ℕ, suc, ◌+◌, ◌<◌, ◌==◌, ⊤, List, [], ◌∷◌, map, length, Option, Some, None, option_map, if◌then◌else◌}
use Rattle.esm_model.specs.declared.entry.Entry.{Entry}
use Rattle.esm_model.specs.Setting.{Setting, Stream}
use Rattle.esm_model.specs.Entries.{came_count}
use Rattle.esm_ingest.specs.declared.group.Group.{Group}
use Rattle.esm_ingest.specs.Parts.{Part, next_part}

abbrev pub stream_in : Group → Stream
stream_in g = record { shard = g.shard; records = g.records.items }

-- the index of the shard
abbrev pub place_in : List ℕ → ℕ → Option ℕ
place_in [] n = None
place_in (k ∷ ks) n = if k == n then Some 0 else option_map suc (place_in ks n)

abbrev pub names_in : List Group → List ℕ
names_in gs = map (λ (g : Group). g.shard) gs

-- the records of each fit, with those that came
abbrev pub AllFit : List Entry → List Stream → Type 0
AllFit h [] = ⊤
AllFit h (t ∷ ts) = (came_count h t.shard + length t.records < 4294967296) × AllFit h ts

-- the part of these records, which follow those of their shard that came
abbrev pub next_of_stream : Setting → List Entry → Stream → Part
next_of_stream s h t = next_part s h t.shard t.records
