-- Why a run of a replay ended, and what it left. This product's own.
use Rattle.std.specs.Prelude.{◌≡◌, ◌⊎◌, ◌*◌, ◌≤◌, ◌∷◌, ◌++◌, ℕ, Bool, true, false, List, [], length, Option, Some, None, IsSome}
use Rattle.esm_io.specs.Meanings.{DiskMeaning}
use Rattle.esm_io.specs.Told.{Grows, TakesFront, IsAtEnd}
use Rattle.esm_journal.specs.Pair.{first_disk, second_disk}
use Rattle.esm_model.specs.declared.book.Change.{Change}
use Rattle.esm_model.specs.declared.book.Trouble.{Trouble}
use Rattle.esm_model.specs.declared.book.Trouble.TheVariants as trouble
use Rattle.esm_model.specs.declared.called.Called.{Called}
use Rattle.esm_model.specs.declared.config.Config.{Config}
use Rattle.esm_model.specs.declared.entry.Entry.{Entry}
use Rattle.esm_model.specs.declared.entry.Reply.{Reply}
use Rattle.esm_model.specs.Records.{Record}
use Rattle.esm_model.specs.declared.item.LineKind.TheVariants as kinds
use Rattle.esm_model.specs.declared.limits.TheConstants.{MAX_BATCH}
use Rattle.esm_model.specs.Entries.{calls_begun}
use Rattle.esm_folder.specs.Upkeep.{OneRose}
use Rattle.esm_input.specs.declared.ending.InputEnd.{InputEnd}
use Rattle.esm_input.specs.Positions.{from_start}
use Rattle.esm_input.specs.Reading.{InputState, IsInput, StandsSo, items_read, handed}
use Rattle.esm_workers.specs.Working.{Outside}
use Rattle.esm_replay.specs.Records.{of_shard}
use Rattle.esm_replay_model.specs.ReplaySetting.{ReplaySetting}
use Rattle.esm_replay_model.specs.Pieces.{replay_event}
use Rattle.esm_replay_model.specs.ReplayLaws.{AllReplayedOrLeft}
use Rattle.esm_replay_model.specs.ReplayRun.{call_out, pieces_left, replay_calls}
use Rattle.esm_journal_state.specs.SaidLists.{SaidLists}
use Rattle.esm_replay.specs.Coming.{first_change}
use Rattle.esm_replay_book.specs.Opening.{IsFirstBadLine}
use Rattle.esm_replay_book.specs.Serving.{records_in_items}
use Rattle.esm_runner.specs.Files.{FilesState, AreClosed}
use Rattle.esm_replay_run.specs.Headline.{Disks, Headline, IsSettingOf, SomeCame}
use Rattle.esm_replay_run.specs.Counts.{AreCounts, AreFewCalls}
use Rattle.esm_replay_run.specs.declared.report.ReplayCounts.{ReplayCounts}
use Rattle.esm_replay_run.specs.declared.run.ReplayEnd.{ReplayEnd}
use Rattle.esm_replay_run.specs.declared.run.ReplayEnd.TheVariants as end

-- what devices show: the clock, the caller and the disks
pub record Telling (D F : Type 0) : Type 1 where
  pub callers : Outside F
  pub disk : DiskMeaning D

abbrev pub telling : {D F : Type 0} → Outside F → DiskMeaning D → Telling D F
telling callers disk = record { callers = callers; disk = disk }

-- all records of each shard arrived, and none of them was kept with another text
pub record AllCame (said : SaidLists) (came records : List Record) : Type 0 where
  pub lists : (n : ℕ) → of_shard n came ≡ of_shard n records
  pub unchanged : first_change said [] records ≡ None

-- the book's trouble, if the run ended because of one
abbrev pub trouble_of : ReplayEnd → Option Trouble
trouble_of (end.Finished why) = None
trouble_of end.CallsSpent = None
trouble_of end.DiskFault = Some trouble.Disk
trouble_of (end.Changed change) = Some (trouble.Changed change)
trouble_of (end.BadLine index) = None

-- The record that changed is the first such one of the input. The list that it is in, of at most `MAX_BATCH` records, was
-- refused whole: exactly the records before the list arrived, and no call was made.
pub record IsChanged (said : SaidLists) (came : List Record) (h : List Entry) (records : List Record) (change : Change) : Type 0 where
  pub first : first_change said [] records ≡ Some change
  pub front : List Record
  pub list : List Record
  pub rest : List Record
  pub parts : records ≡ front ++ list ++ rest
  pub few : length list ≤ MAX_BATCH
  pub lists : (n : ℕ) → of_shard n came ≡ of_shard n front
  pub differs : first_change said front list ≡ Some change
  pub uncalled : h ≡ []

-- the count of faults of a disk of the journal rose since it was opened
abbrev pub JournalRose : {D : Type 0} → DiskMeaning D → FilesState D → Disks D → Type 0
JournalRose m f new = OneRose m (first_disk f.pair) (second_disk f.pair) new.journal new.spare

-- The causes. `Finished`: nothing is left to call, so each named record was replayed or its last call left it, and the
-- reading ended for this reason. `CallsSpent`: all calls allowed were made, and something is left to call. `DiskFault`:
-- the count of faults of a disk of the journal rose in the run, after all records had arrived. `Changed`: a record
-- arrived with another text than was kept of its place; it is the first such record of the input.
abbrev pub IsCauseOf : {D : Type 0} → DiskMeaning D → FilesState D → ReplaySetting → (came : List Record) → List Entry → (records : List Record) → (reading : Option InputEnd) → Disks D → ReplayEnd → Type 0
IsCauseOf m f s came h records reading new (end.Finished why) = AllCame f.said came records × (reading ≡ Some why) × (pieces_left s h ≡ []) × AllReplayedOrLeft s h
IsCauseOf m f s came h records reading new end.CallsSpent = AllCame f.said came records × IsSome reading × (calls_begun h ≡ s.base.calls) × (pieces_left s h ≡ [] → ⊥)
IsCauseOf m f s came h records reading new end.DiskFault = AllCame f.said came records × IsSome reading × JournalRose m f new
IsCauseOf m f s came h records reading new (end.Changed change) = IsChanged f.said came h records change
IsCauseOf m f s came h records reading new (end.BadLine index) = ⊥

-- the input of a run with this configuration, as it was read
pub record IsInputOf {S : Type 0} (faults : S → ℕ) (left : S → Option (List ℕ)) (config : Config) (old new : S) (i : InputState S) : Type 0 where
  pub kind : i.kind ≡ kinds.Stream
  pub factor : i.factor ≡ config.factor
  pub start : i.start ≡ config.start
  pub found : i.found ≡ old
  pub source : i.source ≡ new
  pub good : i.failed ≡ false
  pub read : IsInput faults left i

-- the run over these files and this input left this history and ended so; its reading ended so, or did not come to an end
pub record HasRun {S D F : Type 0} (t : Telling D F) (faults : S → ℕ) (left : S → Option (List ℕ)) (config : Config) (calls : ℕ) (f : FilesState D) (old_input new_input : S) (reading : Option InputEnd) (old_caller new_caller : F) (h : List Entry) (counts : ReplayCounts) (new : Disks D) (e : ReplayEnd) : Type 0 where
  pub input : InputState S
  pub is_input : IsInputOf faults left config old_input new_input input
  pub read_to : input.end ≡ reading
  -- the records that arrived
  pub came : List Record
  pub some_came : SomeCame came (records_in_items (handed input))
  -- none of which was kept with another text
  pub unchanged : first_change f.said [] came ≡ None
  pub setting : ReplaySetting
  pub is_setting : IsSettingOf config calls f came setting
  pub hand : List Entry
  pub headline : Headline t.disk t.callers.gave f setting h (trouble_of e) hand new
  pub are_counts : AreCounts setting h counts
  pub few_calls : AreFewCalls t.callers.sends setting h counts
  -- the caller's log, where it is shown, grew by the calls, and no call is without its end
  pub calls_made : Grows (t.callers.log old_caller) (t.callers.log new_caller) (replay_calls setting t.callers.sends h)
  pub rests : (call_out h).places ≡ []
  pub cause : IsCauseOf t.disk f setting came h (records_in_items (handed input)) reading new e

-- nothing ran: nothing was read, called or written
pub record HasNotBegun {S D F : Type 0} (t : Telling D F) (f : FilesState D) (old_input new_input : S) (reading : Option InputEnd) (old_caller new_caller : F) (h : List Entry) (new : Disks D) : Type 0 where
  pub input : new_input ≡ old_input
  pub unread : reading ≡ None
  pub caller : new_caller ≡ old_caller
  pub no_trace : h ≡ []
  pub unwritten : AreClosed t.disk f new.journal new.spare new.failures

-- a line of the failure file is the first that names no records, and nothing ran; or the replay ran, and ended so
abbrev pub HasEnded : {S D F : Type 0} → Telling D F → (faults : S → ℕ) (left : S → Option (List ℕ)) → Config → (calls : ℕ) → FilesState D → (old_input new_input : S) → (reading : Option InputEnd) → (old_caller new_caller : F) → List Entry → ReplayCounts → Disks D → ReplayEnd → Type 0
HasEnded t faults left config calls f old_input new_input reading old_caller new_caller h counts new (end.BadLine index) =
    IsFirstBadLine f.dest.payloads index × HasNotBegun t f old_input new_input reading old_caller new_caller h new
HasEnded t faults left config calls f old_input new_input reading old_caller new_caller h counts new e = HasRun t faults left config calls f old_input new_input reading old_caller new_caller h counts new e

-- the count of faults of a disk of the journal rose in the run, if the trouble says so; there is no other trouble
abbrev pub IsFaultOf : {D : Type 0} → DiskMeaning D → FilesState D → Disks D → Option Trouble → Type 0
IsFaultOf m f new None = Unit {0}
IsFaultOf m f new (Some trouble.Disk) = JournalRose m f new
IsFaultOf m f new (Some trouble.Dest) = ⊥
IsFaultOf m f new (Some (trouble.Changed change)) = ⊥

-- the log grew by the calls that ended, and by the running one
pub record HasOneMore (sends : List ℕ → List ℕ) (s : ReplaySetting) (h : List Entry) (old new : Option (List Called)) : Type 0 where
  pub out : 1 ≤ length (call_out h).places
  pub reply : Reply
  pub logged : Grows old new (replay_calls s sends h ++ record { name = s.base.config.function; event = sends (replay_event s (call_out h)); reply = reply } ∷ [])

-- the log grew by the calls that ended, and perhaps by the running one
abbrev pub HasLogged : (List ℕ → List ℕ) → ReplaySetting → List Entry → (old new : Option (List Called)) → Type 0
HasLogged sends s h old new = Grows old new (replay_calls s sends h) ⊎ HasOneMore sends s h old new

-- the records of these bytes of the input
abbrev pub records_read : Config → Bool → List ℕ → List Record
records_read config whole bytes = records_in_items (from_start config.start (items_read kinds.Stream config.factor whole bytes).items)

-- the reading of the input had ended for this reason, with these bytes, and all their records had arrived
pub record WasReadFirst {S : Type 0} (faults : S → ℕ) (config : Config) (said : SaidLists) (old_input new_input : S) (whole : Bool) (bytes more : List ℕ) (came : List Record) (reading : Option InputEnd) : Type 0 where
  pub ended : IsSome reading
  pub stands : StandsSo kinds.Stream config.factor (faults old_input) (faults new_input) whole bytes reading
  pub nothing_more : more ≡ []
  pub all : AllCame said came (records_read config whole bytes)

-- Memory ran out during the run: these bytes were read, the records of their lines arrived, or the first of them, and
-- more bytes may have been read after them. A call began only after all records had arrived. A disk may also have failed.
pub record HasStopped {S D F : Type 0} (t : Telling D F) (faults : S → ℕ) (left : S → Option (List ℕ)) (config : Config) (calls : ℕ) (f : FilesState D) (old_input new_input : S) (reading : Option InputEnd) (old_caller new_caller : F) (h : List Entry) (counts : ReplayCounts) (new : Disks D) : Type 0 where
  pub bytes : List ℕ
  pub more : List ℕ
  pub whole : Bool
  pub taken : TakesFront (left old_input) (left new_input) (bytes ++ more)
  pub at_end : whole ≡ true → IsAtEnd (left new_input)
  pub came : List Record
  pub some_came : SomeCame came (records_read config whole bytes)
  pub called_last : (h ≡ [] → ⊥) → WasReadFirst faults config f.said old_input new_input whole bytes more came reading
  -- none of which was kept with another text
  pub unchanged : first_change f.said [] came ≡ None
  pub setting : ReplaySetting
  pub is_setting : IsSettingOf config calls f came setting
  pub trouble : Option Trouble
  pub fault : IsFaultOf t.disk f new trouble
  pub hand : List Entry
  pub headline : Headline t.disk t.callers.gave f setting h trouble hand new
  pub are_counts : AreCounts setting h counts
  pub few_calls : calls_begun h ≤ 2 * counts.named
  pub calls_made : HasLogged t.callers.sends setting h (t.callers.log old_caller) (t.callers.log new_caller)

-- or it ran out before the run began
abbrev pub HasStoppedRun : {S D F : Type 0} → Telling D F → (faults : S → ℕ) (left : S → Option (List ℕ)) → Config → (calls : ℕ) → FilesState D → (old_input new_input : S) → (reading : Option InputEnd) → (old_caller new_caller : F) → List Entry → ReplayCounts → Disks D → Type 0
HasStoppedRun t faults left config calls f old_input new_input reading old_caller new_caller h counts new =
    HasNotBegun t f old_input new_input reading old_caller new_caller h new ⊎ HasStopped t faults left config calls f old_input new_input reading old_caller new_caller h counts new
