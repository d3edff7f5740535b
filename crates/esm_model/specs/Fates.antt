-- The fates of records, and which are open. This product's own; the fates are those of the Lambda Developer Guide,
-- event source mappings for Kinesis (filtering, error handling, maximum record age, retry attempts).
use Rattle.std.specs.Prelude.{ℕ, suc, zero, ◌==◌, Bool, true, false, ◌&&◌, List, [], ◌∷◌, ◌++◌, length, Option, Some, None, filter, option_map, if◌then◌else◌, is_some, is_none}
use Rattle.std.specs.Option.{option_or}
use Rattle.esm_model.specs.declared.lane.LaneId.{LaneId}
use Rattle.esm_model.specs.declared.entry.Fate.{Fate}
use Rattle.esm_model.specs.declared.entry.Fate.TheVariants.{Succeeded, Filtered, Expired, Exhausted}
use Rattle.esm_model.specs.declared.entry.Entry.{Entry}
use Rattle.esm_model.specs.declared.entry.Entry.TheVariants.{Gave}
use Rattle.esm_model.specs.Setting.{Setting, is_in_lane, found_fate}
use Rattle.esm_model.specs.declared.setup.FoundFate.{FoundFate}
use Rattle.esm_model.specs.Entries.{holds, came_count}

-- the entry is a `Gave` that names the place
abbrev pub names_place : ℕ → ℕ → Entry → Bool
names_place n i (Gave by shard places fate line state moment) = (shard == n) && holds places i
names_place n i _ = false

-- the first fate that a place gets stays
abbrev pub given_after : ℕ → ℕ → Option Fate → Entry → Option Fate
given_after n i before (Gave by shard places fate line state moment) = option_or before (if (shard == n) && holds places i then Some fate else None)
given_after n i before _ = before

-- the fate of the first `Gave` that names the place
abbrev pub given : List Entry → ℕ → ℕ → Option Fate
given [] n i = None
given (e ∷ h) n i = given_after n i (given h n i) e

-- the fate found in the journal, or else that of the `Gave` that names the place
abbrev pub fate : Setting → List Entry → ℕ → ℕ → Option Fate
fate s h n i = option_or (option_map (λ (f : FoundFate). f.fate) (found_fate s n i)) (given h n i)

-- the place has a fate
abbrev pub has_fate : Setting → List Entry → ℕ → ℕ → Bool
has_fate s h n i = is_some (fate s h n i)

-- the place has none
abbrev pub lacks_fate : Setting → List Entry → ℕ → ℕ → Bool
lacks_fate s h n i = is_none (fate s h n i)

-- the numbers below n, in order
abbrev pub below : ℕ → List ℕ
below zero = []
below (suc n) = below n ++ n ∷ []

-- the places of the shard's records that arrived
abbrev pub came_places : List Entry → ℕ → List ℕ
came_places h n = below (came_count h n)

-- the places of the lane's open records, in order: they arrived and have no fate
abbrev pub open_places : Setting → List Entry → LaneId → List ℕ
open_places s h lane = filter (λ i. is_in_lane s lane i && lacks_fate s h lane.shard i) (came_places h lane.shard)

-- counts of the report

abbrev pub same_fate : Fate → Fate → Bool
same_fate Succeeded Succeeded = true
same_fate Filtered Filtered = true
same_fate Expired Expired = true
same_fate Exhausted Exhausted = true
same_fate _ _ = false

abbrev pub is_fate : Fate → Option Fate → Bool
is_fate f None = false
is_fate f (Some g) = same_fate f g

-- the number of the shard's arrived records that have this fate
abbrev pub fate_count : Setting → List Entry → ℕ → Fate → ℕ
fate_count s h n f = length (filter (λ i. is_fate f (fate s h n i)) (came_places h n))

-- the number of the shard's open records
abbrev pub open_count : Setting → List Entry → ℕ → ℕ
open_count s h n = length (filter (lacks_fate s h n) (came_places h n))
