-- Which entry may follow a history of a redrive: the conditions of each kind of entry. A redrive has one batcher, with
-- number 0. This product's own, after the Amazon SQS Developer Guide, "Using dead-letter queues".
use Rattle.std.specs.Prelude.{◌≡◌, ℕ, ◌<◌, ◌≤◌, true, false, List, [], ◌∷◌, length, take, Option, Some, None, ⊤}
use Rattle.esm_model.specs.declared.lane.LaneId.{LaneId}
use Rattle.esm_model.specs.declared.entry.Fate.{Fate}
use Rattle.esm_model.specs.declared.entry.Fate.TheVariants.{Succeeded, Filtered, Exhausted}
use Rattle.esm_model.specs.declared.entry.WindowState.{WindowState}
use Rattle.esm_model.specs.declared.entry.Entry.{Entry}
use Rattle.esm_model.specs.declared.entry.Entry.TheVariants.{Came, Began, Ended, Gave, Tried, Closed, Replayed, Shut}
use Rattle.esm_model.specs.declared.item.Message.{Message}
use Rattle.esm_model.specs.Entries.{moment_of, last_moment, is_shut, calls_begun, is_running}
use Rattle.esm_model.specs.Step.{IsLater}
use Rattle.esm_queue_model.specs.QueueSetting.{message_at}
use Rattle.esm_queue_model.specs.QueueEntries.{queue_lane}
use Rattle.esm_queue_model.specs.QueueBatch.{queue_batch, is_queue_ready}
use Rattle.esm_queue_model.specs.QueueStep.{unsorted_messages, owed_places, MayComeQueue, MayFilterQueue, MayDelete}
use Rattle.esm_redrive_model.specs.RedriveSetting.{RedriveSetting}
use Rattle.esm_redrive_model.specs.DeadLetter.{dead_letter}
use Rattle.esm_redrive_model.specs.Due.{due, known}

-- each message that waits passes the filter and is in no line that was found, and batcher 0 owes nothing
pub record SettledRedrive (s : RedriveSetting) (h : List Entry) : Type 0 where
  pub recorded : known s h ≡ []
  pub sorted : unsorted_messages s.queue h ≡ []
  pub paid : owed_places s.queue h (queue_lane 0) ≡ []

-- the conditions of each entry

-- messages may arrive: the next ones of the list
pub record MayComeRedrive (s : RedriveSetting) (h : List Entry) (shard first count : ℕ) : Type 0 where
  pub recorded : known s h ≡ []
  pub comes : MayComeQueue s.queue h shard first count

-- messages may be recorded as moved: all whose line was found; they get no second line
pub record MayRecord (s : RedriveSetting) (h : List Entry) (shard : ℕ) (places : List ℕ) (line : Option (List ℕ)) (state : Option WindowState) (m : ℕ) : Type 0 where
  pub queue : shard ≡ 0
  pub exact : places ≡ known s h
  pub some : 1 ≤ length places
  pub no_line : line ≡ None
  pub no_state : state ≡ None
  pub same_moment : m ≡ last_moment h

-- messages may be filtered: all that wait and do not pass the filter
pub record MayFilterRedrive (s : RedriveSetting) (h : List Entry) (shard : ℕ) (places : List ℕ) (line : Option (List ℕ)) (state : Option WindowState) (m : ℕ) : Type 0 where
  pub recorded : known s h ≡ []
  pub filters : MayFilterQueue s.queue h shard places line state m

-- the first message that is due at the moment may be moved, with its line
pub record MayMove (s : RedriveSetting) (h : List Entry) (lane : LaneId) (shard : ℕ) (places : List ℕ) (line : Option (List ℕ)) (state : Option WindowState) (m : ℕ) : Type 0 where
  pub settled : SettledRedrive s h
  pub batcher : lane ≡ queue_lane 0
  pub rests : is_running h (queue_lane 0) ≡ false
  pub queue : shard ≡ 0
  pub place : ℕ
  pub first : take 1 (due s h m) ≡ place ∷ []
  pub exact : places ≡ place ∷ []
  pub message : Message
  pub is_there : message_at s.queue place ≡ Some message
  pub line_is : line ≡ Some (dead_letter message)
  pub no_state : state ≡ None

-- a call of the batch may begin, if no message is due
pub record MayBeginRedrive (s : RedriveSetting) (h : List Entry) (lane : LaneId) (places : List ℕ) (m : ℕ) : Type 0 where
  pub settled : SettledRedrive s h
  pub batcher : lane ≡ queue_lane 0
  pub rests : is_running h (queue_lane 0) ≡ false
  pub calls_left : calls_begun h < s.queue.calls
  pub none_due : due s h m ≡ []
  pub exact : places ≡ queue_batch s.queue h m
  pub some : 1 ≤ length places
  pub ready : is_queue_ready s.queue h m ≡ true

-- the call may end
pub record MayEndRedrive (h : List Entry) (lane : LaneId) : Type 0 where
  pub batcher : lane ≡ queue_lane 0
  pub runs : is_running h (queue_lane 0) ≡ true

-- messages that succeeded may be deleted: exactly those whose deletion batcher 0 owes
pub record MayDeleteRedrive (s : RedriveSetting) (h : List Entry) (lane : LaneId) (shard : ℕ) (places : List ℕ) (line : Option (List ℕ)) (state : Option WindowState) (m : ℕ) : Type 0 where
  pub batcher : lane ≡ queue_lane 0
  pub deletes : MayDelete s.queue h (queue_lane 0) shard places line state m

abbrev pub MayGiveRedrive : RedriveSetting → List Entry → Option LaneId → ℕ → List ℕ → Fate → Option (List ℕ) → Option WindowState → ℕ → Type 0
MayGiveRedrive s h None shard places Exhausted line state m = MayRecord s h shard places line state m
MayGiveRedrive s h None shard places Filtered line state m = MayFilterRedrive s h shard places line state m
MayGiveRedrive s h (Some lane) shard places Exhausted line state m = MayMove s h lane shard places line state m
MayGiveRedrive s h (Some lane) shard places Succeeded line state m = MayDeleteRedrive s h lane shard places line state m
MayGiveRedrive s h _ shard places _ line state m = ⊥

-- the conditions of each entry; a queue has no tries, windows and replays
abbrev pub RedriveMayFollow : RedriveSetting → List Entry → Entry → Type 0
RedriveMayFollow s h (Came shard first count moment) = MayComeRedrive s h shard first count
RedriveMayFollow s h (Began lane places None moment) = MayBeginRedrive s h lane places moment
RedriveMayFollow s h (Began lane places (Some window) moment) = ⊥
RedriveMayFollow s h (Ended lane reply moment) = MayEndRedrive h lane
RedriveMayFollow s h (Gave by shard places fate line state moment) = MayGiveRedrive s h by shard places fate line state moment
RedriveMayFollow s h (Tried lane places closing tries moment) = ⊥
RedriveMayFollow s h (Closed lane window moment) = ⊥
RedriveMayFollow s h (Replayed shard places moment) = ⊥
RedriveMayFollow s h (Shut moment) = SettledRedrive s h × (is_shut h ≡ false)

-- a history is legal if it is empty, or if it is a legal one and an entry that may follow it
abbrev pub LegalRedrive : RedriveSetting → List Entry → Type 0
LegalRedrive s [] = ⊤
LegalRedrive s (e ∷ h) = LegalRedrive s h × (IsLater h (moment_of e) × RedriveMayFollow s h e)
