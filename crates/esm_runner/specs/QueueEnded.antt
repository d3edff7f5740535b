-- Why a run of a queue's mapping ended so. This product's own.
use Rattle.std.specs.Prelude.{◌≡◌, ◌≤◌, ◌++◌, ℕ, Bool, true, false, List, [], length, slice_get, slice_index_or, Option, Some, None}
use Rattle.esm_io.specs.Told.{TakesFront}
use Rattle.esm_model.specs.declared.book.Change.{Change}
use Rattle.esm_model.specs.declared.book.Trouble.{Trouble}
use Rattle.esm_model.specs.declared.book.Trouble.TheVariants as trouble
use Rattle.esm_model.specs.declared.config.Config.{Config}
use Rattle.esm_model.specs.declared.item.Message.{Message}
use Rattle.esm_model.specs.declared.entry.Entry.{Entry}
use Rattle.esm_model.specs.declared.setup.FoundDeletion.{FoundDeletion}
use Rattle.esm_model.specs.Entries.{is_shut, calls_begun}
use Rattle.esm_queue_model.specs.QueueSetting.{QueueSetting, is_fifo, found_deletion}
use Rattle.esm_queue_model.specs.QueueBatch.{queue_calls}
use Rattle.esm_queue_model.specs.QueueEntries.{queue_count}
use Rattle.esm_model.specs.declared.item.LineKind.{LineKind}
use Rattle.esm_model.specs.declared.item.LineKind.TheVariants as kinds
use Rattle.esm_input.specs.declared.ending.InputEnd.{InputEnd}
use Rattle.esm_input.specs.Positions.{from_start}
use Rattle.esm_input.specs.Reading.{InputState, IsInput, items_read, handed}
use Rattle.esm_folder.specs.Upkeep.{OneRose}
use Rattle.esm_runner.specs.Ran.{NoneRuns}
use Rattle.esm_runner.specs.QueueComing.{messages_in_items}
use Rattle.esm_runner.specs.Number.{batchers_in}
use Rattle.esm_runner.specs.QueueRan.{AllDeleted, IsUnfinished, NoneDiffersBefore}
use Rattle.esm_runner.specs.Ended.{trouble_of}
use Rattle.esm_runner.specs.Files.{FilesState}
use Rattle.esm_runner.specs.Headline.{Telling, Devices}
use Rattle.esm_runner.specs.Earned.{DeletedAllEarned}
use Rattle.esm_runner.specs.QueueHeadline.{IsSettingOf, CallsMade, CallsMadeOrOneMore, Headline}
use Rattle.esm_runner.specs.declared.run.MappingEnd.{MappingEnd}
use Rattle.esm_runner.specs.declared.run.MappingEnd.TheVariants as end

-- all messages arrived, each that was found deleted with the id that was kept, and the end of the input was noted
pub record AllCame (s : QueueSetting) (h : List Entry) (messages : List Message) : Type 0 where
  pub list : s.messages ≡ messages
  pub came : queue_count h ≡ length messages
  pub unchanged : NoneDiffersBefore s.deletions messages (length messages)
  pub shut : is_shut h ≡ true

-- the message at the place was found deleted and has another id now than the one that was kept, and no message before it has
pub record IsChanged (s : QueueSetting) (messages : List Message) (change : Change) : Type 0 where
  pub queue : change.shard ≡ 0
  pub found : FoundDeletion
  pub deletion : found_deletion s change.place ≡ Some found
  pub kept : change.kept ≡ found.text
  pub message : Message
  pub at : slice_get messages change.place ≡ Some message
  pub given : change.given ≡ message.id
  pub differs : change.given ≡ change.kept → ⊥
  pub first : NoneDiffersBefore s.deletions messages change.place

-- The causes of each end. `Finished`: each message is deleted, and the reading ended for this reason. `CallsSpent`: all
-- calls allowed began, and a message is not deleted, or the input had not ended, if it does not show its bytes. `DiskFault`:
-- the faults of a disk of the journal rose. `Changed`: a message that was found deleted arrived with another id, the first
-- such message of the input. A queue delivers no lines, so a run of one never ends by a fault of the failure file.
abbrev pub IsCauseOf : {D F : Type 0} → Telling D F → FilesState D → QueueSetting → List Entry → List Message → (reading : Option InputEnd) → (bytes_left : Option (List ℕ)) → Devices D F → MappingEnd → Type 0
IsCauseOf t f s h messages reading bytes_left new (end.Finished why) = AllCame s h messages × (reading ≡ Some why) × AllDeleted s h
IsCauseOf t f s h messages reading bytes_left new end.CallsSpent = AllCame s h messages × (calls_begun h ≡ s.calls) × IsUnfinished s h reading bytes_left
IsCauseOf t f s h messages reading bytes_left new end.DiskFault = OneRose t.disk f.journal f.spare new.journal new.spare
IsCauseOf t f s h messages reading bytes_left new end.DestFault = ⊥
IsCauseOf t f s h messages reading bytes_left new (end.Changed change) = IsChanged s messages change

-- the kind of lines of a queue of the configuration
abbrev pub line_kind : Config → LineKind
line_kind config = kinds.Queue (is_fifo config.kind)

-- the input of a run of the configuration, as it was read
pub record IsInputOf {S : Type 0} (faults : S → ℕ) (left : S → Option (List ℕ)) (config : Config) (old new : S) (i : InputState S) : Type 0 where
  pub kind : i.kind ≡ line_kind config
  pub factor : i.factor ≡ config.factor
  pub start : i.start ≡ config.start
  pub found : i.found ≡ old
  pub source : i.source ≡ new
  pub good : i.failed ≡ false
  pub read : IsInput faults left i

-- no more batchers made calls than the configuration allows: a caller past their number is as it was, and its batcher made
-- no call
pub record OthersRest {D F : Type 0} (t : Telling D F) (config : Config) (s : QueueSetting) (h : List Entry) (old new : List F) : Type 0 where
  pub untouched : (k : ℕ) (d : F) → batchers_in config ≤ k → slice_index_or new k d ≡ slice_index_or old k d
  pub no_calls : (k : ℕ) → batchers_in config ≤ k → queue_calls s t.callers.sends h k ≡ []

-- The run of the configuration over these files and this input left this history and ended so; `reading` is how the reading
-- of the input ended, and none if it did not end.
pub record HasEnded {S D F : Type 0} (t : Telling D F) (faults : S → ℕ) (left : S → Option (List ℕ)) (config : Config) (calls visibility : ℕ) (f : FilesState D) (old_input new_input : S) (reading : Option InputEnd) (old_callers : List F) (h : List Entry) (new : Devices D F) (e : MappingEnd) : Type 0 where
  pub input : InputState S
  pub is_input : IsInputOf faults left config old_input new_input input
  pub read_to : input.end ≡ reading
  pub setting : QueueSetting
  pub is_setting : IsSettingOf config calls visibility f.said (messages_in_items (handed input)) setting
  pub hand : List Entry
  pub headline : Headline t f setting h (trouble_of e) hand new
  -- if no trouble ended it, each message whose deletion is earned is deleted
  pub all_earned : trouble_of e ≡ None → DeletedAllEarned setting h
  -- caller k's log, if it is visible, grew by the calls of batcher k, and every call has ended
  pub calls_made : CallsMade t setting h old_callers new.callers
  pub rests : NoneRuns h
  pub others : OthersRest t config setting h old_callers new.callers
  pub cause : IsCauseOf t f setting h (messages_in_items (handed input)) reading (left new_input) new e

-- the faults of a disk of the journal rose, if this was the trouble; a queue delivers no lines
abbrev pub IsFaultOf : {D F : Type 0} → Telling D F → FilesState D → Devices D F → Option Trouble → Type 0
IsFaultOf t f new (Some trouble.Disk) = OneRose t.disk f.journal f.spare new.journal new.spare
IsFaultOf t f new (Some trouble.Dest) = ⊥
IsFaultOf t f new _ = Unit {0}

-- Memory ran out: these bytes were read, the messages of their lines or a prefix of them arrived, and more bytes may have
-- been read after them. A disk may have failed as well.
pub record HasStoppedRun {S D F : Type 0} (t : Telling D F) (left : S → Option (List ℕ)) (config : Config) (calls visibility : ℕ) (f : FilesState D) (old_input new_input : S) (old_callers : List F) (h : List Entry) (new : Devices D F) : Type 0 where
  pub bytes : List ℕ
  pub more : List ℕ
  pub whole : Bool
  pub taken : TakesFront (left old_input) (left new_input) (bytes ++ more)
  pub setting : QueueSetting
  pub is_setting : IsSettingOf config calls visibility f.said (messages_in_items (from_start config.start (items_read (line_kind config) config.factor whole bytes).items)) setting
  pub trouble : Option Trouble
  pub fault : IsFaultOf t f new trouble
  pub hand : List Entry
  pub headline : Headline t f setting h trouble hand new
  pub calls_made : CallsMadeOrOneMore t setting h old_callers new.callers
  pub others : OthersRest t config setting h old_callers new.callers
