-- A run of a redrive that is about to begin, and what it leaves. Only this crate's proofs cite this.
use Rattle.std.specs.Prelude.{◌≡◌, ◌≤◌, ℕ, true, false, List, [], length, Result, Ok, Err, Some, None}
use Rattle.esm_io.specs.Images.{Only}
use Rattle.esm_io.specs.Meanings.{DiskMeaning, DestMeaning}
use Rattle.esm_journal.specs.Pair.{PairState, PairKeepsWhileUp, first_disk, second_disk}
use Rattle.esm_journal.specs.File.{header_of}
use Rattle.esm_journal.specs.State.{JournalState, KeepsWhileUp, OpensTo}
use Rattle.esm_journal.specs.Stopped.{PairKeepsWhileDown}
use Rattle.esm_book.specs.Growth.{LeavesFronts, OpensToFront}
use Rattle.esm_book.specs.State.{IsKept}
use Rattle.esm_model.specs.declared.config.Config.{Config}
use Rattle.esm_model.specs.declared.memory.OutOfMemory.{OutOfMemory}
use Rattle.esm_journal_state.specs.SaidLists.{SaidLists}
use Rattle.esm_input.specs.Reading.{InputState, handed}
use Rattle.esm_queue_model.specs.QueueSetting.{is_fifo}
use Rattle.esm_redrive.specs.DeadFile.{AreLetters, dead_ids, IsFirstBad}
use Rattle.esm_redrive_model.specs.RedriveSetting.{HaveSameIds}
use Rattle.esm_redrive_core.specs.Ahead.{IsConsistent}
use Rattle.esm_redrive_core.specs.RedriveView.{new_setting, new_view}
use Rattle.esm_redrive_book.specs.Books.{redrive_meaning}
use Rattle.esm_redrive_book.specs.Keeping.{IsSound, entries_left}
use Rattle.esm_redrive_book.specs.declared.open_error.RedriveOpen.{RedriveOpen}
use Rattle.esm_redrive_book.specs.declared.open_error.RedriveOpen.TheVariants as open_error
use Rattle.esm_runner.specs.Files.{FilesState, IsOpenedFiles}
use Rattle.esm_runner.specs.QueueEnded.{line_kind}
use Rattle.esm_redrive_run.specs.Book.{Book}
use Rattle.esm_redrive_run.specs.Headline.{Words}
use Rattle.esm_redrive_run.specs.declared.run.RedriveEnd.{RedriveEnd}
use Rattle.esm_redrive_run.specs.declared.run.RedriveEnd.TheVariants as end

-- what begins

-- nothing was read from the input
abbrev pub new_input : {S : Type 0} → Config → S → InputState S
new_input config source = record { kind = line_kind config; factor = config.factor; start = config.start; found = source; source = source; bytes = []; whole = false; end = None; failed = false }

-- The book and the input of a run with these words are new, over this journal, this dead-letter file and this source. The
-- ids that the book found are those of the lines of the file, each of which is one of the queue's kind.
pub record IsBegun {S D : Type 0} (w : Words) (said : SaidLists) (pair : PairState D) (dest : JournalState D) (source : S) (b : Book D) (i : InputState S) (name : List ℕ) : Type 0 where
  pub letters : AreLetters (is_fifo w.config.kind) dest.payloads (length dest.payloads)
  pub ids : List (List ℕ)
  pub same_ids : HaveSameIds ids (dead_ids (is_fifo w.config.kind) dest.payloads)
  pub core : b.core ≡ new_view (new_setting w.config w.calls w.visibility said.deletions w.max_receives ids)
  pub pair_is : b.pair ≡ pair
  pub dest_is : b.dest ≡ dest
  pub found : b.found ≡ pair
  pub found_dest : b.found_dest ≡ dest
  pub up : b.trouble ≡ None
  pub input : i ≡ new_input w.config source
  pub unread : handed i ≡ []
  pub name_is : name ≡ w.config.function

-- why no run begins: the first bad line of the dead-letter file, or memory ran out
abbrev pub IsRefusal : Words → (lines : List (List ℕ)) → Result RedriveEnd OutOfMemory → Type 0
IsRefusal w lines (Ok (end.BadLine index)) = IsFirstBad (is_fifo w.config.kind) lines index
IsRefusal w lines (Ok _) = ⊥
IsRefusal w lines (Err none) = Unit {0}

-- the error of a book that was not opened: no payload of the journal is bad
abbrev pub IsNoBadPayload : RedriveOpen → Type 0
IsNoBadPayload (open_error.BadPayload index) = ⊥
IsNoBadPayload _ = Unit {0}

abbrev pub why_of : RedriveOpen → Result RedriveEnd OutOfMemory
why_of (open_error.BadPayload index) = Err (record {})
why_of (open_error.BadLine index) = Ok (end.BadLine index)
why_of open_error.OutOfMemory = Err (record {})

-- the words with which a book was opened, and the files
abbrev pub words_of : {D : Type 0} → Book D → Words
words_of b = record { config = b.core.setting.queue.config; calls = b.core.setting.queue.calls; visibility = b.core.setting.queue.visibility; max_receives = b.core.setting.max_receives }

abbrev pub files_of : {D : Type 0} → (journal spare failures : D) → SaidLists → Book D → FilesState D
files_of journal spare failures said b = record { journal = journal; spare = spare; failures = failures; pair = b.pair; said = said; dest = b.dest }

-- what it leaves

-- a dead-letter file as the destination of lines
abbrev pub dead_file : {D : Type 0} → DiskMeaning D → DestMeaning (JournalState D)
dead_file m = record {
  honest = λ d. m.honest d.disk;
  faults = λ d. m.faults d.disk;
  lines = λ d. Some d.payloads;
  sends = λ line. line;
  failed = λ d. d.down;
  moment = λ d. m.moment d.disk;
  since = λ d. m.since d.disk;
  reads_as = λ left lines. OpensTo (header_of 1) lines left;
}

-- what a crash leaves of the disks since they were passed in
abbrev pub LeavesSince : {D : Type 0} → DiskMeaning D → FilesState D → Book D → Type 0
LeavesSince m f b =
    m.honest f.journal ≡ true → m.honest f.spare ≡ true → Only (m.content f.journal) (m.image f.journal) → Only (m.content f.spare) (m.image f.spare) → (one other : List ℕ) →
    m.since (first_disk b.pair) (m.moment f.journal) one → m.since (second_disk b.pair) (m.moment f.spare) other →
    OpensToFront redrive_meaning (dead_file m) b.found.epoch b.found.payloads b.found_dest b.dest (entries_left b) one other

-- the book was opened over these files, and this holds of it and of its devices
pub record IsLeft {D : Type 0} (m : DiskMeaning D) (f : FilesState D) (b : Book D) : Type 0 where
  pub files : IsOpenedFiles m f
  pub found : b.found ≡ f.pair
  pub found_dest : b.found_dest ≡ f.dest
  pub sound : IsSound b
  pub consistent : IsConsistent b.core
  pub written : IsKept redrive_meaning m (dead_file m) b
  pub since : LeavesSince m f b
  pub images : LeavesFronts redrive_meaning m (dead_file m) b.found b.pair b.found_dest b.dest (entries_left b)
  pub pair_kept : PairKeepsWhileUp m b.pair
  pub pair_stopped : PairKeepsWhileDown m b.pair
  pub dest_kept : KeepsWhileUp m b.dest
  -- the images since now are those of now, and no others
  pub only_now : (d : D) (bytes : List ℕ) → m.honest d ≡ true → m.since d (m.moment d) bytes → m.image d bytes
  pub counts_now : (d : D) (t : ℕ) (bytes : List ℕ) → m.honest d ≡ true → t ≤ m.moment d → m.image d bytes → m.since d t bytes
