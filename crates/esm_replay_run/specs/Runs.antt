-- A run that is about to begin, and what it leaves. Only this crate's proofs cite this.
use Rattle.std.specs.Prelude.{◌≡◌, ℕ, true, false, List, [], Some, None, Result, Ok, Err}
use Rattle.esm_io.specs.Images.{Only}
use Rattle.esm_io.specs.Meanings.{DiskMeaning}
use Rattle.esm_journal.specs.Pair.{PairState, PairKeepsWhileUp, first_disk, second_disk}
use Rattle.esm_journal.specs.Stopped.{PairKeepsWhileDown}
use Rattle.esm_journal.specs.State.{JournalState}
use Rattle.esm_model.specs.declared.book.Trouble.TheVariants.{Disk}
use Rattle.esm_model.specs.declared.config.Config.{Config}
use Rattle.esm_model.specs.declared.item.LineKind.TheVariants as kinds
use Rattle.esm_input.specs.Reading.{InputState, handed}
use Rattle.esm_journal_state.specs.SaidLists.{SaidLists}
use Rattle.esm_replay_model.specs.declared.range.Range.{Range}
use Rattle.esm_replay_model.specs.ReplaySetting.{replay_config}
use Rattle.esm_replay_model.specs.ReplayRun.{IsReplay, owed_replay}
use Rattle.esm_replay_core.specs.View.{setting_of, new_view, RunAhead, SaidAhead}
use Rattle.esm_replay_book.specs.Books.{BookState, OpensToFirst, LeavesFirst, payloads_in}
use Rattle.esm_replay_book.specs.Keeping.{HasJournal, OwesReplay, entries_left}
use Rattle.esm_replay_book.specs.Opening.{GiveRanges, IsFirstBadLine}
use Rattle.esm_runner.specs.Files.{FilesState, IsOpenedFiles}
use Rattle.esm_replay_book.specs.declared.opening.ReplayOpen.{ReplayOpen}
use Rattle.esm_replay_book.specs.declared.opening.ReplayOpen.TheVariants as opens
use Rattle.esm_model.specs.declared.memory.OutOfMemory.{OutOfMemory}
use Rattle.esm_replay_run.specs.declared.run.ReplayEnd.{ReplayEnd}
use Rattle.esm_replay_run.specs.declared.run.ReplayEnd.TheVariants as end

-- what begins

-- nothing was read from the input
abbrev pub new_input : {S : Type 0} → Config → S → InputState S
new_input config source = record { kind = kinds.Stream; factor = config.factor; start = config.start; found = source; source = source; bytes = []; whole = false; end = None; failed = false }

-- the book and the input of a run with this configuration are new, over this journal, these lines and this source
pub record IsBegun {S D : Type 0} (config : Config) (calls : ℕ) (said : SaidLists) (pair : PairState D) (lines : List (List ℕ)) (source : S) (b : BookState D) (i : InputState S) (name : List ℕ) : Type 0 where
  pub ranges : List Range
  pub given : GiveRanges lines ranges
  pub core : b.core ≡ new_view (record { config = replay_config config; calls = calls; said = said; ranges = ranges })
  pub pair_is : b.pair ≡ pair
  pub found : b.found ≡ pair
  pub up : b.trouble ≡ None
  pub input : i ≡ new_input config source
  pub unread : handed i ≡ []
  pub name_is : name ≡ config.function

-- why it did not begin: the first line that names no records
abbrev pub IsRefusal : List (List ℕ) → ReplayEnd → Type 0
IsRefusal lines (end.BadLine index) = IsFirstBadLine lines index
IsRefusal lines _ = ⊥

-- the refusal does not concern a payload
abbrev pub IsOfLine : ReplayOpen → Type 0
IsOfLine (opens.BadPayload index) = ⊥
IsOfLine (opens.BadLine index) = Unit {0}
IsOfLine opens.OutOfMemory = Unit {0}

-- how the run ends then
abbrev pub refusal_of : ReplayOpen → Result ReplayEnd OutOfMemory
refusal_of (opens.BadPayload index) = Err (record {})
refusal_of (opens.BadLine index) = Ok (end.BadLine index)
refusal_of opens.OutOfMemory = Err (record {})

-- the files of a run
abbrev pub files_of : {D : Type 0} → (journal spare failures : D) → SaidLists → PairState D → JournalState D → FilesState D
files_of journal spare failures said pair lines = record { journal = journal; spare = spare; failures = failures; pair = pair; said = said; dest = lines }

-- what it leaves

-- what a crash leaves of the disks since they were passed in
abbrev pub LeavesSince : {D : Type 0} → DiskMeaning D → FilesState D → BookState D → Type 0
LeavesSince m f b =
    m.honest f.journal ≡ true → m.honest f.spare ≡ true → Only (m.content f.journal) (m.image f.journal) → Only (m.content f.spare) (m.image f.spare) → (one other : List ℕ) →
    m.since (first_disk b.pair) (m.moment f.journal) one → m.since (second_disk b.pair) (m.moment f.spare) other →
    OpensToFirst b.found.epoch b.found.payloads (payloads_in (setting_of b.core) (entries_left b)) one other

-- the book was opened over these files, and this holds of it and of its devices
pub record IsLeft {D : Type 0} (m : DiskMeaning D) (f : FilesState D) (b : BookState D) : Type 0 where
  pub files : IsOpenedFiles m f
  pub found : b.found ≡ f.pair
  pub run : IsReplay (setting_of b.core) b.core.past
  pub ahead : RunAhead b.core
  pub may_be_said : SaidAhead b.core
  pub settled : (b.trouble ≡ Some Disk → ⊥) → (owed_replay (setting_of b.core) b.core.past).places ≡ []
  pub owes : b.trouble ≡ Some Disk → OwesReplay (setting_of b.core) b.core.past b.core.owed
  pub journal : HasJournal m b
  pub since : LeavesSince m f b
  pub pair_kept : PairKeepsWhileUp m b.pair
  -- if a disk failed: what a crash leaves since the opening, and what it leaves now
  pub opened_since : LeavesFirst m b.found b.pair (payloads_in (setting_of b.core) (entries_left b))
  pub pair_stopped : PairKeepsWhileDown m b.pair
