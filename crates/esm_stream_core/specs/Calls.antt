-- What each call of a stream's core decides: the entries that are owed then, oldest first, and its answer. Source: the
-- Lambda Developer Guide, event source mappings for Kinesis.
use Rattle.std.specs.Prelude.{◌≡◌, ℕ, ◌+◌, max, true, false, List, [], ◌∷◌, length, map, Some, None}
use Rattle.esm_model.specs.Moment.{capped_moment}
use Rattle.esm_model.specs.Records.{Record}
use Rattle.esm_model.specs.declared.lane.LaneId.{LaneId}
use Rattle.esm_model.specs.declared.book.Job.{Job}
use Rattle.esm_model.specs.declared.book.Next.{Next}
use Rattle.esm_model.specs.declared.book.Change.{Change}
use Rattle.esm_model.specs.declared.entry.Reply.{Reply}
use Rattle.esm_model.specs.declared.entry.Entry.{Entry}
use Rattle.esm_model.specs.declared.entry.Entry.TheVariants.{Ended, Gave}
use Rattle.esm_model.specs.Setting.{Stream, Extends, over}
use Rattle.esm_model.specs.Entries.{last_moment, last_call, batch_of, is_running}
use Rattle.esm_model.specs.Owed.{owed}
use Rattle.esm_ledger.specs.Reading.{lane_of_batcher}
use Rattle.esm_ingest.specs.Changes.{first_change}
use Rattle.esm_ingest.specs.Entries.{arrival_entries}
use Rattle.esm_ingest.specs.Parts.{Part, parts_of}
use Rattle.esm_next.specs.Following.{next_for, next_entries}
use Rattle.esm_stream_core.specs.CoreView.{CoreView}

-- the moment of an entry that comes next: not before the last one
abbrev pub moment_for : List Entry → ℕ → ℕ
moment_for h moment = capped_moment (max moment (last_moment h))

-- records that come

-- the records of a part, as a list of its shard
abbrev pub stream_of : Part → Stream
stream_of p = record { shard = p.shard; records = p.records }

abbrev pub streams_of : List Part → List Stream
streams_of ps = map stream_of ps

-- the records of each shard, in the order of first appearance
abbrev pub coming_lists : CoreView → List Record → List Stream
coming_lists v items = streams_of (parts_of v.setting v.past items)

abbrev pub came_entries : CoreView → List Record → ℕ → List Entry
came_entries v items m = arrival_entries v.setting v.past items m

-- the change is that of the first record of the list that differs from what was kept of it
abbrev pub Differs : CoreView → List Record → Change → Type 0
Differs v items change = first_change v.setting v.past items ≡ Some change

-- none of them differs
abbrev pub NoneDiffers : CoreView → List Record → Type 0
NoneDiffers v items = first_change v.setting v.past items ≡ None

-- a batcher that asks

-- its lane has no running call
abbrev pub IsResting : CoreView → ℕ → Type 0
IsResting v batcher = (lane : LaneId) → lane_of_batcher v.setting v.past batcher ≡ Some lane → is_running v.past lane ≡ false

-- the answer at the moment, over all lists of records that extend those that came
abbrev pub IsNextOver : CoreView → ℕ → ℕ → Next → Type 0
IsNextOver v batcher m next = (streams : List Stream) → Extends v.setting.streams streams → next ≡ next_for (over v.setting streams) v.past batcher m

-- a call begins, or records expire
abbrev pub next_adds : CoreView → ℕ → ℕ → Next → List Entry
next_adds v batcher m next = next_entries v.setting v.past batcher m next

-- the end of a call

-- the job is its lane's running one
pub record IsRunningJob (h : List Entry) (job : Job) : Type 0 where
  pub runs : is_running h job.lane ≡ true
  pub places : job.places ≡ batch_of (last_call h job.lane)

-- the end, and then what it requires
abbrev pub ended_entries : CoreView → LaneId → Reply → ℕ → List Entry
ended_entries v lane reply m = Ended lane reply m ∷ owed v.setting (Ended lane reply m ∷ v.past) lane

-- how many places get a fate by the entries
abbrev pub given_by : Entry → ℕ
given_by (Gave by shard places fate line state moment) = length places
given_by _ = 0

abbrev pub given_in : List Entry → ℕ
given_in [] = 0
given_in (e ∷ es) = given_by e + given_in es

-- how many places get one by what the end requires
abbrev pub given_by_end : CoreView → LaneId → Reply → ℕ → ℕ
given_by_end v lane reply m = given_in (owed v.setting (Ended lane reply m ∷ v.past) lane)
