-- Why a run of a redrive ended, and what it left. This product's own.
use Rattle.std.specs.Prelude.{◌≡◌, ◌⊎◌, ◌+◌, ◌<◌, ◌≤◌, ◌++◌, ℕ, Bool, true, false, List, [], length, Option, Some, None, IsSome}
use Rattle.esm_io.specs.Faults.{Rose}
use Rattle.esm_io.specs.Meanings.{DiskMeaning}
use Rattle.esm_io.specs.Told.{Grows, IsAtEnd, TakesFront}
use Rattle.esm_journal.specs.Pair.{first_disk, second_disk}
use Rattle.esm_model.specs.declared.book.Change.{Change}
use Rattle.esm_model.specs.declared.book.Trouble.{Trouble}
use Rattle.esm_model.specs.declared.book.Trouble.TheVariants as trouble
use Rattle.esm_model.specs.declared.entry.Entry.{Entry}
use Rattle.esm_model.specs.declared.item.Message.{Message}
use Rattle.esm_model.specs.declared.limits.TheConstants.{MAX_BATCH}
use Rattle.esm_model.specs.Entries.{is_shut, is_running, calls_begun}
use Rattle.esm_folder.specs.Upkeep.{OneRose}
use Rattle.esm_input.specs.declared.ending.InputEnd.{InputEnd}
use Rattle.esm_input.specs.Positions.{from_start}
use Rattle.esm_input.specs.Reading.{EndsBy, InputState, items_read, handed}
use Rattle.esm_queue_model.specs.QueueSetting.{is_fifo}
use Rattle.esm_queue_model.specs.QueueEntries.{queue_lane, queue_count}
use Rattle.esm_queue_book.specs.Coming.{messages_in_items}
use Rattle.esm_queue_book.specs.Left.{AllDeleted, HasWaiting}
use Rattle.esm_redrive.specs.DeadFile.{IsFirstBad}
use Rattle.esm_redrive_model.specs.RedriveSetting.{RedriveSetting}
use Rattle.esm_redrive_model.specs.RedriveReport.{redrive_calls}
use Rattle.esm_workers.specs.Working.{Outside}
use Rattle.esm_runner.specs.Files.{FilesState, AreClosed}
use Rattle.esm_runner.specs.QueueEnded.{IsChanged, IsInputOf, line_kind}
use Rattle.esm_runner.specs.QueueRan.{NoneDiffersBefore}
use Rattle.esm_runner.specs.QueueStopping.{HasLogged}
use Rattle.esm_redrive_run.specs.Book.{IsNoneDue}
use Rattle.esm_redrive_run.specs.Headline.{Disks, Words, Headline, IsSettingOf}
use Rattle.esm_redrive_run.specs.declared.run.RedriveEnd.{RedriveEnd}
use Rattle.esm_redrive_run.specs.declared.run.RedriveEnd.TheVariants as end

-- what devices show: the clock, the caller and the disks
pub record Telling (D F : Type 0) : Type 1 where
  pub callers : Outside F
  pub disk : DiskMeaning D

abbrev pub telling : {D F : Type 0} → Outside F → DiskMeaning D → Telling D F
telling callers disk = record { callers = callers; disk = disk }

-- all messages arrived, those found deleted with the id that was kept, and the end of the input was noted
pub record AllCame (s : RedriveSetting) (h : List Entry) (messages : List Message) : Type 0 where
  pub list : s.queue.messages ≡ messages
  pub came : queue_count h ≡ length messages
  pub unchanged : NoneDiffersBefore s.queue.deletions messages (length messages)
  pub shut : is_shut h ≡ true

-- the input is read before the first call: all of its messages arrived and its reading had ended, or no call began
abbrev pub CallsAfterAll : RedriveSetting → List Entry → List Message → (reading : Option InputEnd) → Type 0
CallsAfterAll s h messages reading = (AllCame s h messages × IsSome reading) ⊎ (calls_begun h ≡ 0)

-- the change concerns a message of the next list after those that arrived; that list was refused whole
pub record IsOfNext (h : List Entry) (change : Change) : Type 0 where
  pub behind : queue_count h ≤ change.place
  pub near : change.place < queue_count h + MAX_BATCH

-- the book's trouble, if the run ended because of one
abbrev pub trouble_of : RedriveEnd → Option Trouble
trouble_of (end.Finished why) = None
trouble_of end.CallsSpent = None
trouble_of end.DiskFault = Some trouble.Disk
trouble_of end.DestFault = Some trouble.Dest
trouble_of (end.Changed change) = Some (trouble.Changed change)
trouble_of (end.BadLine index) = None

-- The causes. `Finished`: each message is deleted, and the reading ended for this reason. `CallsSpent`: all calls allowed
-- were made, and a message is not deleted, though none is due. `DiskFault`, `DestFault`: the count of faults of a disk of
-- the journal, or of the dead-letter file, rose in this run. `Changed`: a message that was found deleted arrived with
-- another id; it is the first such one of the input, in the list that came next, and no call was made.
abbrev pub IsCauseOf : {D : Type 0} → DiskMeaning D → FilesState D → RedriveSetting → List Entry → List Message → (reading : Option InputEnd) → Disks D → RedriveEnd → Type 0
IsCauseOf m f s h messages reading new (end.Finished why) = AllCame s h messages × (reading ≡ Some why) × AllDeleted s.queue h
IsCauseOf m f s h messages reading new end.CallsSpent = AllCame s h messages × (calls_begun h ≡ s.queue.calls) × HasWaiting s.queue h × IsSome reading × IsNoneDue s h
IsCauseOf m f s h messages reading new end.DiskFault = OneRose m (first_disk f.pair) (second_disk f.pair) new.journal new.spare
IsCauseOf m f s h messages reading new end.DestFault = Rose (m.faults f.dest.disk) (m.faults new.dead)
IsCauseOf m f s h messages reading new (end.Changed change) = IsChanged s.queue messages change × IsOfNext h change × ((sends : List ℕ → List ℕ) → redrive_calls s sends h ≡ [])
IsCauseOf m f s h messages reading new (end.BadLine index) = ⊥

-- the run over these files and this input left this history and ended so; its reading ended so, or did not come to an end
pub record HasRun {S D F : Type 0} (t : Telling D F) (faults : S → ℕ) (left : S → Option (List ℕ)) (w : Words) (f : FilesState D) (old_input new_input : S) (reading : Option InputEnd) (old_caller new_caller : F) (h : List Entry) (new : Disks D) (e : RedriveEnd) : Type 0 where
  pub input : InputState S
  pub is_input : IsInputOf faults left w.config old_input new_input input
  pub read_to : input.end ≡ reading
  pub setting : RedriveSetting
  pub is_setting : IsSettingOf w f (messages_in_items (handed input)) setting
  pub hand : List Entry
  pub tried : List Entry
  pub headline : Headline t.disk t.callers.gave f setting h (trouble_of e) hand tried new
  -- the caller's log, where it is shown, grew by the calls of batcher 0, and no call is without its end
  pub calls_made : Grows (t.callers.log old_caller) (t.callers.log new_caller) (redrive_calls setting t.callers.sends h)
  pub rests : is_running h (queue_lane 0) ≡ false
  -- and no call began before all of the input had arrived
  pub calls_after_all : CallsAfterAll setting h (messages_in_items (handed input)) reading
  pub cause : IsCauseOf t.disk f setting h (messages_in_items (handed input)) reading new e

-- nothing ran: nothing was read, called or written
pub record HasNotBegun {S D F : Type 0} (t : Telling D F) (f : FilesState D) (old_input new_input : S) (reading : Option InputEnd) (old_caller new_caller : F) (h : List Entry) (new : Disks D) : Type 0 where
  pub input : new_input ≡ old_input
  pub unread : reading ≡ None
  pub caller : new_caller ≡ old_caller
  pub no_trace : h ≡ []
  pub unwritten : AreClosed t.disk f new.journal new.spare new.dead

-- a line of the dead-letter file is the first that is not one of the queue's kind, and nothing ran; or the redrive ran,
-- and ended so
abbrev pub HasEnded : {S D F : Type 0} → Telling D F → (faults : S → ℕ) (left : S → Option (List ℕ)) → Words → FilesState D → (old_input new_input : S) → (reading : Option InputEnd) → (old_caller new_caller : F) → List Entry → Disks D → RedriveEnd → Type 0
HasEnded t faults left w f old_input new_input reading old_caller new_caller h new (end.BadLine index) =
    IsFirstBad (is_fifo w.config.kind) f.dest.payloads index × HasNotBegun t f old_input new_input reading old_caller new_caller h new
HasEnded t faults left w f old_input new_input reading old_caller new_caller h new e = HasRun t faults left w f old_input new_input reading old_caller new_caller h new e

-- the count of faults of a disk of the journal, or of the dead-letter file, rose in this run, if the trouble says so; no
-- message arrived with another id
abbrev pub IsFaultOf : {D : Type 0} → DiskMeaning D → FilesState D → Disks D → Option Trouble → Type 0
IsFaultOf m f new (Some trouble.Disk) = OneRose m (first_disk f.pair) (second_disk f.pair) new.journal new.spare
IsFaultOf m f new (Some trouble.Dest) = Rose (m.faults f.dest.disk) (m.faults new.dead)
IsFaultOf m f new (Some (trouble.Changed change)) = ⊥
IsFaultOf m f new None = Unit {0}

-- the messages of these bytes, as a run with these words reads them
abbrev pub messages_read : Words → (whole : Bool) → (bytes : List ℕ) → List Message
messages_read w whole bytes = messages_in_items (from_start w.config.start (items_read (line_kind w.config) w.config.factor whole bytes).items)

-- everything that was read arrived: these bytes and no more, and the reading ended for this reason
pub record HasReadAll {S : Type 0} (faults : S → ℕ) (w : Words) (old_input new_input : S) (whole : Bool) (bytes more : List ℕ) (s : RedriveSetting) (h : List Entry) (reading : Option InputEnd) : Type 0 where
  pub all : AllCame s h (messages_read w whole bytes)
  pub no_more : more ≡ []
  pub why : InputEnd
  pub read_to : reading ≡ Some why
  pub ends : EndsBy (line_kind w.config) w.config.factor (faults old_input) (faults new_input) whole bytes why

-- no call began, and the end of the input was not noted
pub record HasNotCalled (h : List Entry) : Type 0 where
  pub open_still : is_shut h ≡ false
  pub uncalled : calls_begun h ≡ 0

-- Memory ran out during the run: these bytes were read, the messages of their lines arrived, or the first of them, and
-- more bytes may have been read after them. A device may also have failed. The caller's log grew by the calls of batcher
-- 0, and perhaps by one further call, which is still running.
pub record HasStopped {S D F : Type 0} (t : Telling D F) (faults : S → ℕ) (left : S → Option (List ℕ)) (w : Words) (f : FilesState D) (old_input new_input : S) (reading : Option InputEnd) (old_caller new_caller : F) (h : List Entry) (new : Disks D) : Type 0 where
  pub bytes : List ℕ
  pub more : List ℕ
  pub whole : Bool
  pub taken : TakesFront (left old_input) (left new_input) (bytes ++ more)
  pub at_end : whole ≡ true → IsAtEnd (left new_input)
  pub setting : RedriveSetting
  pub is_setting : IsSettingOf w f (messages_read w whole bytes) setting
  -- all of the input arrived, and its reading had ended; or no call began, nor was the input's end noted
  pub calls_after_all : HasReadAll faults w old_input new_input whole bytes more setting h reading ⊎ HasNotCalled h
  pub trouble : Option Trouble
  pub fault : IsFaultOf t.disk f new trouble
  pub hand : List Entry
  pub tried : List Entry
  pub headline : Headline t.disk t.callers.gave f setting h trouble hand tried new
  pub calls_made : HasLogged t.callers.sends setting.queue h 0 (t.callers.log old_caller) (t.callers.log new_caller)

-- or it ran out before the run began
abbrev pub HasStoppedRun : {S D F : Type 0} → Telling D F → (faults : S → ℕ) (left : S → Option (List ℕ)) → Words → FilesState D → (old_input new_input : S) → (reading : Option InputEnd) → (old_caller new_caller : F) → List Entry → Disks D → Type 0
HasStoppedRun t faults left w f old_input new_input reading old_caller new_caller h new =
    HasNotBegun t f old_input new_input reading old_caller new_caller h new ⊎ HasStopped t faults left w f old_input new_input reading old_caller new_caller h new
