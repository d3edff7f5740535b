-- Which entry may follow a history of a queue's mapping: a row of conditions for each kind of entry. This product's own,
-- after the Lambda Developer Guide, "Using Lambda with Amazon SQS" (batches, partial batch responses, deletion).
use Rattle.std.specs.Prelude.{◌≡◌, ℕ, ◌+◌, ◌<◌, ◌≤◌, Bool, true, false, IsTrue, not, ◌&&◌, List, [], ◌∷◌, length, filter, Option, Some, None, option_map, unwrap_or, if◌then◌else◌, ⊤}
use Rattle.esm_model.specs.declared.item.Message.{Message}
use Rattle.esm_model.specs.declared.lane.LaneId.{LaneId}
use Rattle.esm_model.specs.declared.entry.Fate.{Fate}
use Rattle.esm_model.specs.declared.entry.Fate.TheVariants.{Succeeded, Filtered}
use Rattle.esm_model.specs.declared.entry.Reply.{Reply}
use Rattle.esm_model.specs.declared.entry.WindowState.{WindowState}
use Rattle.esm_model.specs.declared.entry.Entry.{Entry}
use Rattle.esm_model.specs.declared.entry.Entry.TheVariants.{Came, Began, Ended, Gave, Tried, Closed, Replayed, Shut}
use Rattle.esm_model.specs.declared.setup.FoundDeletion.{FoundDeletion}
use Rattle.esm_model.specs.declared.verdict.QueueReading.{QueueReading}
use Rattle.esm_model.specs.declared.verdict.QueueReading.TheVariants.{NotRun, Failed, Done}
use Rattle.esm_model.specs.Lane.{same_lane}
use Rattle.esm_model.specs.Entries.{holds, moment_of, last_moment, is_shut, calls_begun, last_call, batch_of, is_running}
use Rattle.esm_model.specs.Fates.{below}
use Rattle.esm_model.specs.Filter.{passes_message}
use Rattle.esm_model.specs.QueueReading.{queue_reading}
use Rattle.esm_model.specs.Step.{IsLater}
use Rattle.esm_queue_model.specs.QueueSetting.{QueueSetting, message_at, ids_at, found_deletion}
use Rattle.esm_queue_model.specs.QueueEntries.{queue_count, is_deleted}
use Rattle.esm_queue_model.specs.QueueBatch.{queue_batch, is_queue_ready}

-- filtering

-- the message does not pass the filter
abbrev pub is_refused_message : QueueSetting → Message → Bool
is_refused_message s m = not (passes_message s.config.filters m)

-- the message at the place is not deleted and does not pass the filter
abbrev pub is_unsorted_message : QueueSetting → List Entry → ℕ → Bool
is_unsorted_message s h i = not (is_deleted s h i) && unwrap_or (option_map (is_refused_message s) (message_at s i)) false

-- the places of the messages that arrived, are not deleted and do not pass the filter
abbrev pub unsorted_messages : QueueSetting → List Entry → List ℕ
unsorted_messages s h = filter (is_unsorted_message s h) (below (queue_count h))

-- what the end of a call owes

-- the places whose positions, counted from k, are not among the failed ones
abbrev pub not_failed : List ℕ → ℕ → List ℕ → List ℕ
not_failed failed k [] = []
not_failed failed k (i ∷ places) = if holds failed k then not_failed failed (k + 1) places else i ∷ not_failed failed (k + 1) places

-- the places that succeeded, by this reading of the reply for their batch
abbrev pub succeeded_by : QueueReading → List ℕ → List ℕ
succeeded_by NotRun places = []
succeeded_by Failed places = []
succeeded_by (Done failed) places = not_failed failed 0 places

-- the places that succeeded, by the reply to the lane's last call
abbrev pub succeeded_in : QueueSetting → List Entry → LaneId → Reply → List ℕ
succeeded_in s h lane reply = succeeded_by (queue_reading s.config (ids_at s (batch_of (last_call h lane))) reply) (batch_of (last_call h lane))

abbrev pub succeeded_after : QueueSetting → List Entry → LaneId → List ℕ → Entry → List ℕ
succeeded_after s h lane before (Began at places closing moment) = if same_lane at lane then [] else before
succeeded_after s h lane before (Ended at reply moment) = if same_lane at lane then succeeded_in s h lane reply else before
succeeded_after s h lane before _ = before

-- the places that succeeded in the lane's last `Ended`; none after a later `Began` of the lane
abbrev pub succeeded_places : QueueSetting → List Entry → LaneId → List ℕ
succeeded_places s [] lane = []
succeeded_places s (e ∷ h) lane = succeeded_after s h lane (succeeded_places s h lane) e

-- those of them that are not deleted yet: if there are any, one `Gave` of them is owed
abbrev pub owed_places : QueueSetting → List Entry → LaneId → List ℕ
owed_places s h lane = filter (λ i. not (is_deleted s h i)) (succeeded_places s h lane)

-- each message that waits passes the filter, and no lane owes anything
pub record SettledQueue (s : QueueSetting) (h : List Entry) : Type 0 where
  pub sorted : unsorted_messages s h ≡ []
  pub paid : (lane : LaneId) → owed_places s h lane ≡ []

-- the conditions of each entry

-- each covered message for which the journal kept a deletion has the message id that it kept
abbrev pub IsKeptMessage : QueueSetting → ℕ → ℕ → Type 0
IsKeptMessage s first count = (i : ℕ) (f : FoundDeletion) (m : Message) → first ≤ i → i < first + count → message_at s i ≡ Some m → found_deletion s i ≡ Some f → m.id ≡ f.text

-- messages may arrive: the next ones of the list
pub record MayComeQueue (s : QueueSetting) (h : List Entry) (shard first count : ℕ) : Type 0 where
  pub not_shut : is_shut h ≡ false
  pub queue : shard ≡ 0
  pub next : first ≡ queue_count h
  pub some : 1 ≤ count
  pub within : first + count ≤ length s.messages
  pub kept : IsKeptMessage s first count

-- messages may be filtered: all that wait and do not pass the filter
pub record MayFilterQueue (s : QueueSetting) (h : List Entry) (shard : ℕ) (places : List ℕ) (line : Option (List ℕ)) (state : Option WindowState) (m : ℕ) : Type 0 where
  pub queue : shard ≡ 0
  pub exact : places ≡ unsorted_messages s h
  pub some : 1 ≤ length places
  pub no_line : line ≡ None
  pub no_state : state ≡ None
  pub same_moment : m ≡ last_moment h

-- a call of the batch may begin
pub record MayBeginQueue (s : QueueSetting) (h : List Entry) (lane : LaneId) (places : List ℕ) (m : ℕ) : Type 0 where
  pub settled : SettledQueue s h
  pub queue : lane.shard ≡ 0
  pub rests : is_running h lane ≡ false
  pub calls_left : calls_begun h < s.calls
  pub exact : places ≡ queue_batch s h m
  pub some : 1 ≤ length places
  pub ready : is_queue_ready s h m ≡ true

-- messages that succeeded may be deleted: exactly those whose deletion the lane owes
pub record MayDelete (s : QueueSetting) (h : List Entry) (lane : LaneId) (shard : ℕ) (places : List ℕ) (line : Option (List ℕ)) (state : Option WindowState) (m : ℕ) : Type 0 where
  pub queue : shard ≡ 0
  pub exact : places ≡ owed_places s h lane
  pub some : 1 ≤ length places
  pub no_line : line ≡ None
  pub no_state : state ≡ None
  pub same_moment : m ≡ last_moment h

abbrev pub MayGiveQueue : QueueSetting → List Entry → Option LaneId → ℕ → List ℕ → Fate → Option (List ℕ) → Option WindowState → ℕ → Type 0
MayGiveQueue s h None shard places Filtered line state m = MayFilterQueue s h shard places line state m
MayGiveQueue s h (Some lane) shard places Succeeded line state m = MayDelete s h lane shard places line state m
MayGiveQueue s h _ shard places _ line state m = ⊥

-- the conditions of each entry; a queue has no tries, windows and replays
abbrev pub QueueMayFollow : QueueSetting → List Entry → Entry → Type 0
QueueMayFollow s h (Came shard first count moment) = MayComeQueue s h shard first count
QueueMayFollow s h (Began lane places None moment) = MayBeginQueue s h lane places moment
QueueMayFollow s h (Began lane places (Some window) moment) = ⊥
QueueMayFollow s h (Ended lane reply moment) = IsTrue (is_running h lane)
QueueMayFollow s h (Gave by shard places fate line state moment) = MayGiveQueue s h by shard places fate line state moment
QueueMayFollow s h (Tried lane places closing tries moment) = ⊥
QueueMayFollow s h (Closed lane window moment) = ⊥
QueueMayFollow s h (Replayed shard places moment) = ⊥
QueueMayFollow s h (Shut moment) = SettledQueue s h × (is_shut h ≡ false)

-- a history is legal if it is empty, or if it is a legal one and an entry that may follow it
abbrev pub LegalQueue : QueueSetting → List Entry → Type 0
LegalQueue s [] = ⊤
LegalQueue s (e ∷ h) = LegalQueue s h × (IsLater h (moment_of e) × QueueMayFollow s h e)
