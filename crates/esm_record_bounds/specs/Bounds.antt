-- What is within the bounds of a stream: the records of its lists, the states that were found in its journal at opening, and
-- the numbers of records that arrived. This product's own.
use Rattle.std.specs.Prelude.{◌≡◌, ℕ, ◌<◌, ◌≤◌, ◌^◌, List, length, Some, ⊤}
use Rattle.std.specs.List.{All}
use Rattle.esm_model.specs.declared.limits.TheConstants.{MAX_DATA, MAX_BATCH}
use Rattle.esm_model.specs.declared.moment.TheConstants.{MAX_MOMENT}
use Rattle.esm_model.specs.Records.{Record}
use Rattle.esm_model.specs.declared.entry.Fate.TheVariants.{Filtered}
use Rattle.esm_model.specs.declared.entry.Entry.{Entry}
use Rattle.esm_model.specs.declared.entry.Entry.TheVariants.{Gave}
use Rattle.esm_model.specs.declared.setup.FoundState.{FoundState}
use Rattle.esm_model.specs.Setting.{Setting, record_at, found_state}
use Rattle.esm_model.specs.Entries.{came_count}
use Rattle.esm_model.specs.Valid.{IsValidRecord}

-- a window's start is a moment, and the text of its state is no longer than a state may be
pub record IsStateWithin (window : ℕ) (text : List ℕ) : Type 0 where
  pub in_time : window ≤ MAX_MOMENT
  pub short : length text ≤ MAX_DATA

-- each state that was found in a journal at opening is within its bounds
abbrev pub AreStatesWithin : List FoundState → Type 0
AreStatesWithin states = All (λ (f : FoundState). IsStateWithin f.window f.text) states

-- each record is valid and in the list of its own shard, and each found state is within its bounds
pub record AreWithinBounds (s : Setting) : Type 0 where
  pub own_shard : (n i : ℕ) (r : Record) → record_at s n i ≡ Some r → r.shard ≡ n
  pub valid : (n i : ℕ) (r : Record) → record_at s n i ≡ Some r → IsValidRecord r
  pub states : (n w : ℕ) (text : List ℕ) → found_state s n w ≡ Some text → IsStateWithin w text

-- the place of each record that arrived fits in four bytes
abbrev pub AreCountedInFourBytes : List Entry → Type 0
AreCountedInFourBytes h = (n : ℕ) → came_count h n < 2 ^ 32

-- the records that an entry filters at their arrival are no more than can arrive at once
abbrev pub FiltersFew : Entry → Type 0
FiltersFew (Gave by shard places Filtered line state moment) = length places ≤ MAX_BATCH
FiltersFew _ = ⊤
