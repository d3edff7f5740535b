-- Records whose sequence number is another than the one that the journal kept of them. This product's own.
use Rattle.std.specs.Prelude.{ℕ, ◌+◌, List, [], ◌∷◌, ◌++◌, Option, Some, None, option_map, if◌then◌else◌}
use Rattle.std.specs.Option.{option_or}
use Rattle.std.specs.Str.{bytes_eq}
use Rattle.esm_model.specs.Records.{Record}
use Rattle.esm_model.specs.declared.book.Change.{Change}
use Rattle.esm_model.specs.declared.entry.Entry.{Entry}
use Rattle.esm_model.specs.declared.setup.FoundFate.{FoundFate}
use Rattle.esm_model.specs.declared.setup.FoundTries.{FoundTries}
use Rattle.esm_model.specs.Setting.{Setting, found_fate, found_try}
use Rattle.esm_model.specs.Entries.{came_count}
use Rattle.esm_ingest.specs.Coming.{count_of}

-- the kept text, if there is one and it differs from the sequence number
abbrev pub other_text : List ℕ → Option (List ℕ) → Option (List ℕ)
other_text seq None = None
other_text seq (Some kept) = if bytes_eq kept seq then None else Some kept

-- what was kept of the place with its fate, else with its tries, if it differs
abbrev pub kept_otherwise : Setting → ℕ → ℕ → List ℕ → Option (List ℕ)
kept_otherwise s n i seq =
    option_or (other_text seq (option_map (λ (f : FoundFate). f.text) (found_fate s n i))) (other_text seq (option_map (λ (f : FoundTries). f.text) (found_try s n i)))

-- the change: the record at the place has another sequence number than this text, which was kept
abbrev pub change_of : Record → ℕ → List ℕ → Change
change_of r i kept = record { shard = r.shard; place = i; kept = kept; given = r.seq }

-- how the record differs from what was kept of the place, if it does
abbrev pub change_at : Setting → ℕ → Record → Option Change
change_at s i r = option_map (change_of r i) (kept_otherwise s r.shard i r.seq)

-- the place of the record that comes after these
abbrev pub place_after : List Entry → List Record → Record → ℕ
place_after h before r = came_count h r.shard + count_of r.shard before

-- the change of the first record that differs, of those that come after these
abbrev pub first_change_from : Setting → List Entry → List Record → List Record → Option Change
first_change_from s h before [] = None
first_change_from s h before (r ∷ rs) = option_or (change_at s (place_after h before r) r) (first_change_from s h (before ++ r ∷ []) rs)

-- the change of the first record of the list that differs
abbrev pub first_change : Setting → List Entry → List Record → Option Change
first_change s h rs = first_change_from s h [] rs
