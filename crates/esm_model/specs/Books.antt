-- The shared history of a stream's book, which threads pass on: its setting and its entries, which seat adds an entry, and
-- which entry may come next. This product's own. A list of `Told` has its oldest entry first, a list of entries its newest.
use Rattle.std.specs.Prelude.{◌≡◌, ℕ, suc, ◌<◌, ◌==◌, IsTrue, List, [], ◌∷◌, ◌++◌, length, map, reverse, filter_map, Option, Some, None, if◌then◌else◌}
use Rattle.std.specs.List.{All}
use Rattle.esm_model.specs.Records.{Record}
use Rattle.esm_model.specs.declared.lane.LaneId.{LaneId}
use Rattle.esm_model.specs.declared.entry.Entry.{Entry}
use Rattle.esm_model.specs.declared.entry.Entry.TheVariants.{Came, Began, Ended, Gave, Tried, Closed, Replayed, Shut}
use Rattle.esm_model.specs.declared.setup.Told.{Told}
use Rattle.esm_model.specs.declared.setup.Setup.{Setup}
use Rattle.esm_model.specs.Setting.{Setting, Stream, Extends, over}
use Rattle.esm_model.specs.Entries.{moment_of, holds, came_count, shards_that_came, batcher}
use Rattle.esm_model.specs.Step.{IsLater, MayFollow}
use Rattle.esm_model.specs.Valid.{IsValidRecord}

-- entries and records

-- the entries of a history, newest first
abbrev pub entries_told : List Told → List Entry
entries_told history = reverse (map (λ (t : Told). t.entry) history)

-- the records that an entry holds, where it is a `Came` of the shard
abbrev pub came_with : ℕ → List Record → Entry → List Record
came_with n records (Came shard first count moment) = if shard == n then records else []
came_with n records _ = []

-- the records of the shard that the `Came` entries of a history hold, in order
abbrev pub records_told : ℕ → List Told → List Record
records_told n [] = []
records_told n (t ∷ ts) = came_with n t.records t.entry ++ records_told n ts

abbrev pub stream_told : List Told → ℕ → Stream
stream_told history n = record { shard = n; records = records_told n history }

-- the records of each shard that arrived, the shards in the order of their first `Came`
abbrev pub streams_told : List Told → List Stream
streams_told history = map (stream_told history) (shards_that_came (entries_told history))

-- the setting of a book that was opened with the setup: its records are those that its history holds
abbrev pub setting_told : Setup → List Told → Setting
setting_told setup history = record {
  config = setup.config;
  calls = setup.calls;
  streams = streams_told history;
  fates = setup.fates;
  tries = setup.tries;
  states = setup.states;
  window_tries = setup.window_tries;
}

-- failure lines

-- the failure line of an entry, where it has one
abbrev pub entry_line : Entry → Option (List ℕ)
entry_line (Gave by shard places fate line state moment) = line
entry_line _ = None

-- the failure lines of a history, oldest first
abbrev pub lines_of : List Entry → List (List ℕ)
lines_of h = filter_map entry_line (reverse h)

abbrev pub lines_told : List Told → List (List ℕ)
lines_told history = filter_map (λ (t : Told). entry_line t.entry) history

-- authors

-- the lane whose batcher adds the entry; the reader adds those without a lane
abbrev pub lane_of_entry : Entry → Option LaneId
lane_of_entry (Came shard first count moment) = None
lane_of_entry (Began lane places closing moment) = Some lane
lane_of_entry (Ended lane reply moment) = Some lane
lane_of_entry (Gave by shard places fate line state moment) = by
lane_of_entry (Tried lane places closing tries moment) = Some lane
lane_of_entry (Closed lane window moment) = Some lane
lane_of_entry (Replayed shard places moment) = None
lane_of_entry (Shut moment) = None

-- the seat of the lane's batcher; the reader has the seat 0
abbrev pub seat_of : Setting → List Entry → Option LaneId → ℕ
seat_of s h None = 0
seat_of s h (Some lane) = suc (batcher s h lane)

-- the seat that adds an entry after the history
abbrev pub author : Setup → List Told → Told → ℕ
author setup history t = seat_of (setting_told setup history) (entries_told history) (lane_of_entry t.entry)

-- named places

-- the places are those of records of the shard that arrived
abbrev pub HaveCome : List Entry → ℕ → List ℕ → Type 0
HaveCome h n places = (i : ℕ) → IsTrue (holds places i) → i < came_count h n

-- the records at the places that the entry names arrived
abbrev pub NamesCame : List Entry → Entry → Type 0
NamesCame h (Began lane places closing moment) = HaveCome h lane.shard places
NamesCame h (Gave by shard places fate line state moment) = HaveCome h shard places
NamesCame h (Tried lane places closing tries moment) = HaveCome h lane.shard places
NamesCame h (Replayed shard places moment) = HaveCome h shard places
NamesCame h _ = Unit {0}

-- which entry may come next

-- the records that a `Came` covers: `count` of the shard, each valid
pub record AreCovered (shard count : ℕ) (records : List Record) : Type 0 where
  pub number : length records ≡ count
  pub own_shard : All (λ (r : Record). r.shard ≡ shard) records
  pub valid : All IsValidRecord records

-- the entry holds these records: a `Came` those that it covers, and every other entry none
abbrev pub StandWith : Entry → List Record → Type 0
StandWith (Came shard first count moment) records = AreCovered shard count records
StandWith _ records = records ≡ []

-- the entry is one of a stream's book: it holds its records, and no messages
pub record IsOfStream (t : Told) : Type 0 where
  pub records : StandWith t.entry t.records
  pub no_messages : t.messages ≡ []

-- the entry may follow the history over every list of records that extends those told, its own included
pub record StreamMayFollow (setup : Setup) (history : List Told) (t : Told) : Type 0 where
  pub of_stream : IsOfStream t
  pub later : IsLater (entries_told history) (moment_of t.entry)
  pub row : (streams : List Stream) → Extends (streams_told (history ++ t ∷ [])) streams → MayFollow (over (setting_told setup history) streams) (entries_told history) t.entry

abbrev pub stream_may_follow : Setup → List Told → Told → Type 0
stream_may_follow setup history t = StreamMayFollow setup history t
