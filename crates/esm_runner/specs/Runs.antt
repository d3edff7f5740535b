-- A run that is about to begin, and what it leaves. Only this crate's proofs cite this.
use Rattle.std.specs.Prelude.{◌≡◌, ◌≤◌, ℕ, true, false, List, [], ◌∷◌, Some, None}
use Rattle.esm_io.specs.Images.{Only}
use Rattle.esm_io.specs.Meanings.{DiskMeaning, DestMeaning}
use Rattle.esm_journal.specs.Pair.{PairState, PairKeepsWhileUp, first_disk, second_disk}
use Rattle.esm_journal.specs.File.{header_of}
use Rattle.esm_journal.specs.State.{JournalState, OpensTo, KeepsWhileUp, KeepsWhileDown}
use Rattle.esm_journal.specs.Stopped.{PairKeepsWhileDown}
use Rattle.esm_model.specs.declared.book.Trouble.TheVariants as trouble
use Rattle.esm_model.specs.declared.config.Config.{Config}
use Rattle.esm_model.specs.declared.config.Start.{Start}
use Rattle.esm_model.specs.declared.entry.Entry.{Entry}
use Rattle.esm_model.specs.Books.{entry_line}
use Rattle.esm_journal_record.specs.EntryPayload.{entry_payload}
use Rattle.esm_book.specs.State.{in_hand, in_delivery}
use Rattle.esm_ledger.specs.Ledger.{opened_with, LegalOver}
use Rattle.esm_stream_core.specs.CoreView.{new_view, full_setting}
use Rattle.esm_model.specs.declared.item.LineKind.TheVariants as kinds
use Rattle.esm_input.specs.Reading.{InputState}
use Rattle.esm_journal_state.specs.SaidLists.{SaidLists}
use Rattle.esm_stream_book.specs.Books.{BookState, LeavesFirst, OpensToFirst, payloads_in}
use Rattle.esm_stream_book.specs.Keeping.{HasJournal, HasLines, entries_left}
use Rattle.esm_runner.specs.Files.{FilesState, IsOpenedFiles}
use Rattle.esm_runner.specs.Headline.{CanBeSaid, HandFollows, SettledUnless}

-- what begins

-- nothing was read of the input
abbrev pub new_input : {S : Type 0} → Config → Start → S → InputState S
new_input config start source = record { kind = kinds.Stream; factor = config.factor; start = start; found = source; source = source; bytes = []; whole = false; end = None; failed = false }

-- a book with the failure file in place of the destination over it
abbrev pub over_file : {D T : Type 0} → (T → JournalState D) → BookState D T → BookState D (JournalState D)
over_file file b = record { core = b.core; pair = b.pair; dest = file b.dest; trouble = b.trouble; found = b.found; found_dest = file b.found_dest }

-- the book and the input of a run with this configuration and starting position are new, over these files and this source
pub record IsBegun {S D : Type 0} (config : Config) (start : Start) (calls : ℕ) (said : SaidLists) (pair : PairState D) (dest : JournalState D) (source : S) (b : BookState D (JournalState D)) (i : InputState S) (name : List ℕ) : Type 0 where
  pub core : b.core ≡ new_view (opened_with config calls said)
  pub pair_is : b.pair ≡ pair
  pub dest_is : b.dest ≡ dest
  pub found : b.found ≡ pair
  pub found_dest : b.found_dest ≡ dest
  pub up : b.trouble ≡ None
  pub input : i ≡ new_input config start source
  pub name_is : name ≡ config.function

-- the files of a run that has begun
abbrev pub files_of : {D : Type 0} → (journal spare failures : D) → SaidLists → BookState D (JournalState D) → FilesState D
files_of journal spare failures said b = record { journal = journal; spare = spare; failures = failures; pair = b.pair; said = said; dest = b.dest }

-- what it leaves

-- a failure file as a destination; `line` is what is delivered to it for a line
abbrev pub file_dest : {D : Type 0} → DiskMeaning D → (List ℕ → List ℕ) → DestMeaning (JournalState D)
file_dest m line = record {
  honest = λ d. m.honest d.disk;
  faults = λ d. m.faults d.disk;
  lines = λ d. Some d.payloads;
  sends = line;
  failed = λ d. d.down;
  moment = λ d. m.moment d.disk;
  since = λ d. m.since d.disk;
  reads_as = λ left lines. OpensTo (header_of 1) lines left;
}

-- what a crash leaves of the disks since they were handed in
abbrev pub LeavesSince : {D : Type 0} → DiskMeaning D → (List ℕ → List ℕ) → FilesState D → BookState D (JournalState D) → Type 0
LeavesSince m line f b =
    m.honest f.journal ≡ true → m.honest f.spare ≡ true → Only (m.content f.journal) (m.image f.journal) → Only (m.content f.spare) (m.image f.spare) → (one other : List ℕ) →
    m.since (first_disk b.pair) (m.moment f.journal) one → m.since (second_disk b.pair) (m.moment f.spare) other →
    OpensToFirst (file_dest m line) (full_setting b.core) b.found.epoch b.found.payloads b.found_dest b.dest (entries_left b) one other

-- a crash since now leaves of an honest disk only what a crash now leaves, and that may also be left since an earlier moment
pub record CountsNow {D : Type 0} (m : DiskMeaning D) : Type 0 where
  pub only_now : (d : D) (bytes : List ℕ) → m.honest d ≡ true → m.since d (m.moment d) bytes → m.image d bytes
  pub counts_now : (d : D) (t : ℕ) (bytes : List ℕ) → m.honest d ≡ true → t ≤ m.moment d → m.image d bytes → m.since d t bytes

-- the book was opened over these files, and this holds of it and of its devices
pub record IsLeft {D : Type 0} (m : DiskMeaning D) (line : List ℕ → List ℕ) (f : FilesState D) (b : BookState D (JournalState D)) : Type 0 where
  pub files : IsOpenedFiles m f
  pub found : b.found ≡ f.pair
  pub found_dest : b.found_dest ≡ f.dest
  pub legal : LegalOver b.core.setting b.core.past
  pub settled : SettledUnless b.trouble b.core.setting b.core.past
  -- the found fates are those of the journal, and the journal's format can say each entry that it keeps, the one in hand too
  pub fates : b.core.setting.fates ≡ f.said.fates
  pub can_be_said : CanBeSaid b.core.setting b.core.past (in_hand b.trouble b.core.owed)
  pub journal : HasJournal m b
  pub lines : HasLines (file_dest m line) b
  pub since : LeavesSince m line f b
  pub pair_kept : PairKeepsWhileUp m b.pair
  -- what a crash leaves since the opening, and what it leaves now if a disk failed
  pub opened_since : LeavesFirst m (file_dest m line) (full_setting b.core) b.found b.pair b.found_dest b.dest (entries_left b)
  pub pair_stopped : PairKeepsWhileDown m b.pair
  pub dest_kept : KeepsWhileUp m b.dest
  pub dest_stopped : KeepsWhileDown m b.dest
  -- the records that are still arriving change no payload of the entry in hand
  pub hand : payloads_in (full_setting b.core) (in_hand b.trouble b.core.owed) ≡ payloads_in b.core.setting (in_hand b.trouble b.core.owed)
  -- and it may follow, and so may the entry whose line was being delivered
  pub hand_follows : HandFollows b.core.setting b.core.past (in_hand b.trouble b.core.owed)
  pub tried_follows : HandFollows b.core.setting b.core.past (in_delivery b.trouble b.core.owed)
  -- exactly one entry was being written if a disk failed, and the line of exactly one was being delivered if the failure
  -- file failed
  pub hand_is_one : b.trouble ≡ Some trouble.Disk → (e : Entry) × (payload : List ℕ) × (in_hand b.trouble b.core.owed ≡ e ∷ []) × (entry_payload b.core.setting e ≡ Some payload)
  pub tried_is_one : b.trouble ≡ Some trouble.Dest → (e : Entry) × (line : List ℕ) × (in_delivery b.trouble b.core.owed ≡ e ∷ []) × (entry_line e ≡ Some line)
  pub now : CountsNow m
