-- Why a run of a stream's mapping ended so. This product's own.
use Rattle.std.specs.Prelude.{◌≡◌, ◌++◌, ℕ, Bool, true, false, List, [], length, Option, Some, None}
use Rattle.esm_io.specs.Faults.{Rose}
use Rattle.esm_io.specs.Told.{TakesFront}
use Rattle.esm_model.specs.declared.book.Trouble.{Trouble}
use Rattle.esm_model.specs.declared.book.Trouble.TheVariants as trouble
use Rattle.esm_model.specs.declared.config.Config.{Config}
use Rattle.esm_model.specs.declared.config.Start.{Start}
use Rattle.esm_model.specs.Records.{Record}
use Rattle.esm_model.specs.declared.entry.Entry.{Entry}
use Rattle.esm_model.specs.Setting.{Setting, records_of}
use Rattle.esm_model.specs.Entries.{is_shut, came_count, calls_begun}
use Rattle.esm_ingest.specs.Changes.{first_change, kept_otherwise}
use Rattle.esm_ingest.specs.Coming.{of_shard}
use Rattle.esm_model.specs.declared.item.LineKind.TheVariants as kinds
use Rattle.esm_input.specs.declared.ending.InputEnd.{InputEnd}
use Rattle.esm_input.specs.Positions.{from_start}
use Rattle.esm_input.specs.Reading.{InputState, IsInput, items_read, handed}
use Rattle.esm_folder.specs.Upkeep.{OneRose}
use Rattle.esm_runner.specs.Coming.{records_in_items}
use Rattle.esm_runner.specs.Ran.{AllFated, NoneOutstanding, IsUnfinished, IsOfRecord, IsFirstChange, NoneRuns}
use Rattle.esm_runner.specs.Files.{FilesState}
use Rattle.esm_runner.specs.Headline.{Telling, Devices, IsSettingOf, CallsMade, CallsMadeOrOneMore, Headline}
use Rattle.esm_runner.specs.declared.run.MappingEnd.{MappingEnd}
use Rattle.esm_runner.specs.declared.run.MappingEnd.TheVariants as end

-- all records arrived, none differs from what the journal kept of its place, and the end of the input was noted
pub record AllCame (s : Setting) (h : List Entry) (records : List Record) : Type 0 where
  pub lists : (n : ℕ) → records_of s n ≡ of_shard n records
  pub came : (n : ℕ) → came_count h n ≡ length (records_of s n)
  pub unchanged : first_change s [] records ≡ None
  pub shut : is_shut h ≡ true

-- the book's trouble, if that ended the run
abbrev pub trouble_of : MappingEnd → Option Trouble
trouble_of (end.Finished why) = None
trouble_of end.CallsSpent = None
trouble_of end.DiskFault = Some trouble.Disk
trouble_of end.DestFault = Some trouble.Dest
trouble_of (end.Changed change) = Some (trouble.Changed change)

-- The causes of each end. `Finished`: each record has its fate, no window is outstanding, and the reading ended for this
-- reason. `CallsSpent`: all calls allowed began, and a record is open, or a window outstanding, or the input had not ended,
-- if it does not show its bytes. `DiskFault`, `DestFault`: the faults of a disk of the journal rose, or those of the failure
-- file. `Changed`: a record arrived with another sequence number than the journal kept of its place, the first such record
-- of the input.
abbrev pub IsCauseOf : {D F : Type 0} → Telling D F → FilesState D → Setting → List Entry → List Record → (reading : Option InputEnd) → (bytes_left : Option (List ℕ)) → Devices D F → MappingEnd → Type 0
IsCauseOf t f s h records reading bytes_left new (end.Finished why) = AllCame s h records × (reading ≡ Some why) × AllFated s h × NoneOutstanding s h
IsCauseOf t f s h records reading bytes_left new end.CallsSpent = AllCame s h records × (calls_begun h ≡ s.calls) × IsUnfinished s h reading bytes_left
IsCauseOf t f s h records reading bytes_left new end.DiskFault = OneRose t.disk f.journal f.spare new.journal new.spare
IsCauseOf t f s h records reading bytes_left new end.DestFault = Rose (t.disk.faults f.dest.disk) (t.disk.faults new.failures)
IsCauseOf t f s h records reading bytes_left new (end.Changed change) = (kept_otherwise s change.shard change.place change.given ≡ Some change.kept) × IsOfRecord records change × IsFirstChange s records change

-- the input of a run of the configuration, from the starting position on, as it was read
pub record IsInputOf {S : Type 0} (faults : S → ℕ) (left : S → Option (List ℕ)) (config : Config) (start : Start) (old new : S) (i : InputState S) : Type 0 where
  pub kind : i.kind ≡ kinds.Stream
  pub factor : i.factor ≡ config.factor
  pub start_is : i.start ≡ start
  pub found : i.found ≡ old
  pub source : i.source ≡ new
  pub good : i.failed ≡ false
  pub read : IsInput faults left i

-- The run of the configuration over these files and this input left this history and ended so; `reading` is how the reading
-- of the input ended, and none if it did not end.
pub record HasEnded {S D F : Type 0} (t : Telling D F) (faults : S → ℕ) (left : S → Option (List ℕ)) (config : Config) (start : Start) (calls : ℕ) (f : FilesState D) (old_input new_input : S) (reading : Option InputEnd) (old_callers : List F) (h : List Entry) (new : Devices D F) (e : MappingEnd) : Type 0 where
  pub input : InputState S
  pub is_input : IsInputOf faults left config start old_input new_input input
  pub read_to : input.end ≡ reading
  pub setting : Setting
  pub is_setting : IsSettingOf config calls f.said (records_in_items (handed input)) setting
  pub hand : List Entry
  pub headline : Headline t f setting h (trouble_of e) hand new
  -- caller k's log, if it is visible, grew by the calls of batcher k, and every call has ended
  pub calls_made : CallsMade t setting h old_callers new.callers
  pub rests : NoneRuns h
  pub cause : IsCauseOf t f setting h (records_in_items (handed input)) reading (left new_input) new e

-- the faults of a disk of the journal rose, or those of the failure file once it was opened, if this was the trouble
abbrev pub IsFaultOf : {D F : Type 0} → Telling D F → FilesState D → Devices D F → Option Trouble → Type 0
IsFaultOf t f new (Some trouble.Disk) = OneRose t.disk f.journal f.spare new.journal new.spare
IsFaultOf t f new (Some trouble.Dest) = Rose (t.disk.faults f.dest.disk) (t.disk.faults new.failures)
IsFaultOf t f new _ = Unit {0}

-- Memory ran out: these bytes were read, the records of their lines or a prefix of them arrived, and more bytes may have
-- been read after them. A device may have failed as well.
pub record HasStoppedRun {S D F : Type 0} (t : Telling D F) (left : S → Option (List ℕ)) (config : Config) (start : Start) (calls : ℕ) (f : FilesState D) (old_input new_input : S) (old_callers : List F) (h : List Entry) (new : Devices D F) : Type 0 where
  pub bytes : List ℕ
  pub more : List ℕ
  pub whole : Bool
  pub taken : TakesFront (left old_input) (left new_input) (bytes ++ more)
  pub setting : Setting
  pub is_setting : IsSettingOf config calls f.said (records_in_items (from_start start (items_read kinds.Stream config.factor whole bytes).items)) setting
  pub trouble : Option Trouble
  pub fault : IsFaultOf t f new trouble
  pub hand : List Entry
  pub headline : Headline t f setting h trouble hand new
  pub calls_made : CallsMadeOrOneMore t setting h old_callers new.callers
