-- Which records of a shard have a fate, and what a history says of that. This product's own.
use Rattle.std.specs.Prelude.{ℕ, ◌≡◌, ◌==◌, ◌+◌, ◌<◌, ◌≤◌, Bool, false, List, length, drop, filter, take_while, slice_index_or, Option, None, option_map, ⊤}
use Rattle.esm_model.specs.declared.entry.Fate.{Fate}
use Rattle.esm_model.specs.declared.entry.Entry.{Entry}
use Rattle.esm_model.specs.declared.entry.Entry.TheVariants.{Came, Gave}
use Rattle.esm_model.specs.declared.setup.FoundFate.{FoundFate}
use Rattle.esm_model.specs.Setting.{Setting, found_fate}
use Rattle.esm_model.specs.Entries.{came_count}
use Rattle.esm_model.specs.Fates.{given, has_fate, fate_count}
use Rattle.esm_shard_index.specs.declared.progress.FateCounts.{FateCounts}
use Rattle.esm_shard_index.specs.FateCounts.{count_in}

-- by place whether the record has a fate, how many have which, and for how many more records there is room
pub record Tally : Type 0 where
  pub fated : List Bool
  pub counts : FateCounts
  pub room : ℕ

-- how many there are with a fate
abbrev pub number_of : List Bool → ℕ
number_of fated = length (filter (λ b. b) fated)

-- how many places at the front have a fate, without a gap
abbrev pub front_of : List Bool → ℕ
front_of fated = length (take_while (λ b. b) fated)

-- how many after these have one
abbrev pub past_of : List Bool → ℕ
past_of fated = number_of (drop (front_of fated) fated)

-- the fate that was found for the place
abbrev pub found_at : Setting → ℕ → ℕ → Option Fate
found_at s n i = option_map (λ (f : FoundFate). f.fate) (found_fate s n i)

-- these are what was found for the shard's places from this one on
abbrev pub AreFound : Setting → ℕ → ℕ → List (Option Fate) → Type 0
AreFound s n first found = (k : ℕ) → k < length found → slice_index_or found k None ≡ found_at s n (first + k)

-- the tally says of the shard's records that came what the history says
pub record IsProgress (s : Setting) (h : List Entry) (n : ℕ) (t : Tally) : Type 0 where
  pub came : length t.fated ≡ came_count h n
  pub fated : (i : ℕ) → i < came_count h n → slice_index_or t.fated i false ≡ has_fate s h n i
  pub counts : (f : Fate) → count_in t.counts f ≡ fate_count s h n f
  -- no place that is still to come was given a fate
  pub ahead : (i : ℕ) → came_count h n ≤ i → given h n i ≡ None

-- the entry changes no fate of the shard, and brings none of its records
abbrev pub LeavesFates : ℕ → Entry → Type 0
LeavesFates n (Came shard first count moment) = (shard == n) ≡ false
LeavesFates n (Gave by shard places fate line state moment) = (shard == n) ≡ false
LeavesFates n _ = ⊤
