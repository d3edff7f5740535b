-- What the report of a replay says of its records. This product's own.
use Rattle.std.specs.Prelude.{ℕ, ◌+◌, ◌==◌, Bool, false, not, ◌&&◌, List, [], ◌∷◌, ◌++◌, length, filter, codes}
use Rattle.std.specs.List.{list_any}
use Rattle.esm_model.specs.declared.entry.Entry.{Entry}
use Rattle.esm_model.specs.declared.entry.Entry.TheVariants.{Replayed}
use Rattle.esm_model.specs.Entries.{holds}
use Rattle.esm_model.specs.Numbers.{decimal}
use Rattle.esm_replay_model.specs.ReplaySetting.{ReplaySetting}
use Rattle.esm_replay_model.specs.Pieces.{ReplayPiece, first_pieces}

-- the entry is a `Replayed` that names the place
abbrev pub replays_place : ℕ → ℕ → Entry → Bool
replays_place n i (Replayed shard places moment) = (shard == n) && holds places i
replays_place n i _ = false

-- the record is replayed: a `Replayed` of the run names it
abbrev pub is_replayed : List Entry → ℕ → ℕ → Bool
is_replayed h n i = list_any (replays_place n i) h

-- the number of records in the pieces
abbrev pub records_in : List ReplayPiece → ℕ
records_in [] = 0
records_in (p ∷ others) = length p.places + records_in others

-- the number of those that pass
abbrev pub count_passing : (ℕ → ℕ → Bool) → List ReplayPiece → ℕ
count_passing passes [] = 0
count_passing passes (p ∷ others) = length (filter (passes p.shard) p.places) + count_passing passes others

-- the number of the named records, of those of them that the run replayed, and of the others
abbrev pub named_count : ReplaySetting → ℕ
named_count s = records_in (first_pieces s)

abbrev pub replayed_count : ReplaySetting → List Entry → ℕ
replayed_count s h = count_passing (λ n i. is_replayed h n i) (first_pieces s)

abbrev pub left_count : ReplaySetting → List Entry → ℕ
left_count s h = count_passing (λ n i. not (is_replayed h n i)) (first_pieces s)

-- the number of records that a history replays
abbrev pub replayed_with : ℕ → Entry → ℕ
replayed_with before (Replayed shard places moment) = length places + before
replayed_with before _ = before

abbrev pub replayed_in : List Entry → ℕ
replayed_in [] = 0
replayed_in (e ∷ h) = replayed_with (replayed_in h) e

-- the report's line, without the line feed
abbrev pub replay_text : ReplaySetting → List Entry → List ℕ
replay_text s h =
    codes "replay named " ++ decimal (named_count s)
    ++ codes " replayed " ++ decimal (replayed_count s h)
    ++ codes " left " ++ decimal (left_count s h)
