-- The headline of a queue: what a run of its mapping leaves. This product's own.
use Rattle.std.specs.Prelude.{◌≡◌, ◌<◌, ◌^◌, [], ◌∷◌, ◌++◌, ℕ, Bool, List, length, slice_index_or, Option, Some, None, is_some, option_map, reverse, IsSome}
use Rattle.std.specs.List.{All}
use Rattle.esm_io.specs.Told.{Grows}
use Rattle.esm_journal.specs.Pair.{first_disk, second_disk}
use Rattle.esm_journal.specs.Reads.{IsOnlyRead}
use Rattle.esm_model.specs.declared.config.Config.{Config}
use Rattle.esm_model.specs.declared.item.Message.{Message}
use Rattle.esm_model.specs.declared.lane.LaneId.{LaneId}
use Rattle.esm_model.specs.declared.entry.Reply.{Reply}
use Rattle.esm_model.specs.declared.entry.Entry.{Entry}
use Rattle.esm_model.specs.declared.entry.Entry.TheVariants.{Ended}
use Rattle.esm_model.specs.declared.called.Called.{Called}
use Rattle.esm_model.specs.declared.book.Trouble.{Trouble}
use Rattle.esm_model.specs.declared.book.Trouble.TheVariants.{Disk}
use Rattle.esm_model.specs.Entries.{moment_of}
use Rattle.esm_model.specs.ValidMessage.{IsValidMessage}
use Rattle.esm_queue_model.specs.QueueSetting.{QueueSetting, ExtendsMessages, over_messages}
use Rattle.esm_queue_model.specs.QueueEntries.{queue_count, is_deleted, deletion_fate}
use Rattle.esm_queue_model.specs.QueueBatch.{queue_calls, last_queue_event}
use Rattle.esm_queue_model.specs.QueueStep.{LegalQueue, SettledQueue}
use Rattle.esm_queue_model.specs.HistoryLaws.{DeletedOnce, OrderPerGroup, EveryMessageCounted}
use Rattle.esm_book.specs.Hand.{FollowsFront}
use Rattle.esm_queue_core.specs.CoreView.{new_setting}
use Rattle.esm_journal_record.specs.declared.said.Said.{Said}
use Rattle.esm_journal_record.specs.EntryPayload.{queue_payload}
use Rattle.esm_journal_state.specs.declared.kept.KeptFate.{KeptFate}
use Rattle.esm_journal_state.specs.Meaning.{deletion_said, history}
use Rattle.esm_journal_state.specs.SaidLists.{SaidLists}
use Rattle.esm_folder.specs.Upkeep.{AreHonest, AreSettled, PairHolds}
use Rattle.esm_queue_book.specs.Books.{payloads_in, OpensToFirst}
use Rattle.esm_runner.specs.Given.{AreGiven, IsGiven}
use Rattle.esm_runner.specs.QueueStopping.{HasLogged}
use Rattle.esm_runner.specs.Files.{FilesState}
use Rattle.esm_runner.specs.Headline.{Telling, Devices, PairStopped, IsInHand}
use Rattle.esm_runner.specs.Earned.{DeletedOnlyEarned}

-- the setting of a run: opened with the configuration, the calls allowed, the visibility timeout in milliseconds and the
-- deletions that the journal has; its messages are those of the input, in order, as far as they arrived
pub record IsSettingOf (config : Config) (calls visibility : ℕ) (said : SaidLists) (messages : List Message) (s : QueueSetting) : Type 0 where
  pub opened : s ≡ over_messages (new_setting config calls visibility said.deletions) s.messages
  pub came : (rest : List Message) × (messages ≡ s.messages ++ rest)

-- legal over every list of messages that extends those that arrived
abbrev pub LegalOver : QueueSetting → List Entry → Type 0
LegalOver s h = (messages : List Message) → ExtendsMessages s.messages messages → LegalQueue (over_messages s messages) h

-- without trouble nothing is owed, over every list of messages that extends those that arrived: each message that waits
-- passes the filter, and no lane is owed a deletion
abbrev pub SettledUnless : Option Trouble → QueueSetting → List Entry → Type 0
SettledUnless trouble s h = trouble ≡ None → (messages : List Message) → ExtendsMessages s.messages messages → SettledQueue (over_messages s messages) h

-- the entry in hand may follow the history, or a prefix of it that only ends of calls and of the input follow, over every
-- list of messages that extends those that arrived
abbrev pub HandFollows : QueueSetting → List Entry → (hand : List Entry) → Type 0
HandFollows s h hand = (e : Entry) → hand ≡ e ∷ [] → FollowsFront (λ before x. LegalOver s (x ∷ before)) h e

-- its moment is one that the clock gave, or that of the last entry of that prefix if that is later, and at most `MAX_MOMENT`
abbrev pub HandIsGiven : (ℕ → Bool) → (s : QueueSetting) (h hand : List Entry) → HandFollows s h hand → Type 0
HandIsGiven gave s h hand follows = (e : Entry) (some : hand ≡ e ∷ []) → IsGiven gave (follows e some).before (moment_of e)

-- the entry in hand has a payload, which was being written
abbrev pub HandHasPayload : QueueSetting → (hand : List Entry) → Type 0
HandHasPayload s hand = (e : Entry) → hand ≡ e ∷ [] → IsSome (queue_payload s.messages e)

-- caller k's log, if it is visible, grew by the calls of batcher k
abbrev pub CallsMade : {D F : Type 0} → Telling D F → QueueSetting → List Entry → (old new : List F) → Type 0
CallsMade {D} {F} t s h old new = (k : ℕ) (d : F) → k < length old → Grows (t.callers.log (slice_index_or old k d)) (t.callers.log (slice_index_or new k d)) (queue_calls s t.callers.sends h k)

-- or perhaps by one further call, of a lane that still runs
abbrev pub CallsMadeOrOneMore : {D F : Type 0} → Telling D F → QueueSetting → List Entry → (old new : List F) → Type 0
CallsMadeOrOneMore {D} {F} t s h old new = (k : ℕ) (d : F) → k < length old → HasLogged t.callers.sends s h k (t.callers.log (slice_index_or old k d)) (t.callers.log (slice_index_or new k d))

-- the journal's content is the old one followed by the payloads of the history
abbrev pub JournalKept : {D F : Type 0} → Telling D F → FilesState D → QueueSetting → List Entry → Devices D F → Type 0
JournalKept t f s h new = AreHonest t.disk f.journal f.spare → PairHolds t.disk f.pair.epoch (f.pair.payloads ++ payloads_in s.messages (reverse h)) new.journal new.spare

-- after a fault of the journal's disk: what a crash now leaves of it opens to these payloads, or to these and that of the
-- entry in hand
abbrev pub JournalStopped : {D F : Type 0} → Telling D F → FilesState D → QueueSetting → List Entry → (hand : List Entry) → Devices D F → Type 0
JournalStopped t f s h hand new = PairStopped t.disk f (payloads_in s.messages (reverse h)) (payloads_in s.messages (reverse h ++ hand)) new.journal new.spare

-- Every image of the pair since the run's start opens to the content found, followed by a prefix of the payloads of the
-- history in their order; if a disk failed, one further whole payload may follow all of them.
abbrev pub CrashKept : {D F : Type 0} → Telling D F → FilesState D → QueueSetting → List Entry → (hand : List Entry) → Devices D F → Type 0
CrashKept t f s h hand new =
    AreHonest t.disk f.journal f.spare → AreSettled t.disk f.journal f.spare → (one other : List ℕ) →
    t.disk.since new.journal (t.disk.moment f.journal) one → t.disk.since new.spare (t.disk.moment f.spare) other →
    OpensToFirst f.pair.epoch f.pair.payloads (payloads_in s.messages (reverse h ++ hand)) one other

-- So does each image since the pair was opened, whatever a crash before that might have left of its disks: opening synced
-- them.
abbrev pub CrashKeptSinceOpening : {D F : Type 0} → Telling D F → FilesState D → QueueSetting → List Entry → (hand : List Entry) → Devices D F → Type 0
CrashKeptSinceOpening t f s h hand new =
    AreHonest t.disk f.journal f.spare → (one other : List ℕ) →
    t.disk.since new.journal (t.disk.moment (first_disk f.pair)) one → t.disk.since new.spare (t.disk.moment (second_disk f.pair)) other →
    OpensToFirst f.pair.epoch f.pair.payloads (payloads_in s.messages (reverse h ++ hand)) one other

-- what the journal's content says after the history: the old payloads followed by those of the history, the newest first
abbrev pub said_after : {D : Type 0} → FilesState D → QueueSetting → List Entry → List Said
said_after f s h = history (reverse (f.pair.payloads ++ payloads_in s.messages (reverse h)))

-- By the journal's content each place has the fate of its deletion after the history, found or given, and no other place has
-- one; and a message that arrived is deleted if and only if the content says so.
pub record DeletionsAreRecorded {D : Type 0} (f : FilesState D) (s : QueueSetting) (h : List Entry) : Type 0 where
  pub fates : (i : ℕ) → option_map (λ (k : KeptFate). k.fate) (deletion_said (said_after f s h) i) ≡ deletion_fate s h i
  pub deleted : (i : ℕ) → i < queue_count h → is_some (deletion_said (said_after f s h) i) ≡ is_deleted s h i

-- each reply is the one, next to the call's event, in the calls of its batcher, by which the log of that caller grew
abbrev pub RepliesAreLogged : {D F : Type 0} → Telling D F → QueueSetting → List Entry → Type 0
RepliesAreLogged t s h =
    (later before : List Entry) (lane : LaneId) (reply : Reply) (m : ℕ) → h ≡ later ++ Ended lane reply m ∷ before
    → (earlier rest : List Called)
    × (queue_calls s t.callers.sends h lane.lane ≡ earlier ++ record { name = s.config.function; event = t.callers.sends (last_queue_event s before lane); reply = reply } ∷ rest)

-- What holds of a history (newest entry first) and of the devices after it, whatever ended the run.
pub record Headline {D F : Type 0} (t : Telling D F) (f : FilesState D) (s : QueueSetting) (h : List Entry) (trouble : Option Trouble) (hand : List Entry) (new : Devices D F) : Type 0 where
  -- each entry may follow those before it, over every list of messages that extends those that arrived
  pub legal_trace : LegalOver s h
  -- if no disk failed and no message was found changed, nothing is owed
  pub settled : SettledUnless trouble s h
  -- the messages of the setting are those that arrived in the history
  pub messages_came : queue_count h ≡ length s.messages
  -- each of them is valid, and 32 bits count them
  pub valid : All (IsValidMessage s.config.kind) s.messages
  pub few : length s.messages < 2 ^ 32
  -- each moment is one that the clock gave, at most `MAX_MOMENT`, or that of the entry before if that is later
  pub moments : AreGiven t.callers.gave h
  -- the journal's content is the old one followed by the payloads of the history
  pub journal_kept : (trouble ≡ Some Disk → ⊥) → JournalKept t f s h new
  -- if a disk of it failed, one further whole payload may follow, that of the entry in hand
  pub journal_stopped : trouble ≡ Some Disk → JournalStopped t f s h hand new
  -- exactly one entry is in hand if a disk of the journal failed, and none otherwise; it has a payload and may follow, and
  -- its moment is one that the clock gave
  pub in_hand : IsInHand trouble hand
  pub hand_has_payload : HandHasPayload s hand
  pub hand_follows : HandFollows s h hand
  pub hand_given : HandIsGiven t.callers.gave s h hand hand_follows
  -- what a crash leaves since the run's start: the old content followed by a prefix of the payloads of the history
  pub crash : CrashKept t f s h hand new
  -- and since its pair was opened, whatever a crash before that might have left of the disks
  pub crash_since_opening : CrashKeptSinceOpening t f s h hand new
  -- the failure file is as it was opened, and opening only read it
  pub failures_same : new.failures ≡ f.dest.disk
  pub failures_read : IsOnlyRead t.disk f.failures new.failures
  -- a message that arrived is deleted only if it was found deleted, a reply of the history counts it as succeeded, or it
  -- does not pass the filter
  pub only_earned : DeletedOnlyEarned s h
  -- and the reply that counts it is in the log of its batcher's caller
  pub replies_are_logged : RepliesAreLogged t s h
  -- each deletion is recorded: the journal's content has exactly these, each with its fate
  pub deletions_are_recorded : DeletionsAreRecorded f s h
  -- no message is deleted twice, and none is that was found deleted
  pub deleted_once : DeletedOnce s h
  -- in a FIFO queue no batch overtakes an earlier message of one of its groups
  pub order_per_group : OrderPerGroup s h
  -- the messages that arrived are the deleted ones and those that wait, each counted once
  pub every_message_counted : EveryMessageCounted s h
