-- A run that is about to begin, and what it leaves. Only this crate's proofs cite this.
use Rattle.std.specs.Prelude.{◌≡◌, ◌<◌, ◌^◌, ℕ, true, false, List, [], ◌∷◌, Some, None, length, reverse}
use Rattle.std.specs.List.{All}
use Rattle.esm_io.specs.Images.{Only}
use Rattle.esm_io.specs.Meanings.{DiskMeaning}
use Rattle.esm_journal.specs.Pair.{PairState, PairKeepsWhileUp, first_disk, second_disk}
use Rattle.esm_journal.specs.State.{JournalState}
use Rattle.esm_journal.specs.Stopped.{PairKeepsWhileDown}
use Rattle.esm_model.specs.declared.book.Trouble.TheVariants as trouble
use Rattle.esm_model.specs.declared.config.Config.{Config}
use Rattle.esm_model.specs.declared.entry.Entry.{Entry}
use Rattle.esm_model.specs.ValidMessage.{IsValidMessage}
use Rattle.esm_journal_record.specs.EntryPayload.{queue_payload}
use Rattle.esm_book.specs.State.{in_hand}
use Rattle.esm_queue_model.specs.QueueStep.{LegalQueue, SettledQueue}
use Rattle.esm_queue_model.specs.QueueEntries.{queue_count}
use Rattle.esm_queue_core.specs.CoreView.{all_messages, new_setting, new_view}
use Rattle.esm_input.specs.Reading.{InputState}
use Rattle.esm_journal_state.specs.SaidLists.{SaidLists}
use Rattle.esm_queue_book.specs.Books.{BookState, LeavesFirst, OpensToFirst, payloads_in}
use Rattle.esm_queue_book.specs.Keeping.{MayFollowFront, HasJournal, entries_left}
use Rattle.esm_runner.specs.Number.{batchers_in}
use Rattle.esm_runner.specs.Files.{FilesState, IsOpenedFiles}
use Rattle.esm_runner.specs.QueueEnded.{line_kind}

-- what begins

-- nothing was read of the input
abbrev pub new_input : {S : Type 0} → Config → S → InputState S
new_input config source = record { kind = line_kind config; factor = config.factor; start = config.start; found = source; source = source; bytes = []; whole = false; end = None; failed = false }

-- the book and the input of a run with this configuration are new, over this journal and this source, and this is the number
-- of its batchers
pub record IsBegun {S D : Type 0} (config : Config) (calls visibility : ℕ) (said : SaidLists) (pair : PairState D) (source : S) (b : BookState D) (i : InputState S) (name : List ℕ) (batchers : ℕ) : Type 0 where
  pub core : b.core ≡ new_view (new_setting config calls visibility said.deletions)
  pub pair_is : b.pair ≡ pair
  pub found : b.found ≡ pair
  pub up : b.trouble ≡ None
  pub input : i ≡ new_input config source
  pub name_is : name ≡ config.function
  pub batchers_are : batchers ≡ batchers_in config

-- the files of a run that has begun
abbrev pub files_of : {D : Type 0} → (journal spare failures : D) → SaidLists → BookState D → JournalState D → FilesState D
files_of journal spare failures said b dest = record { journal = journal; spare = spare; failures = failures; pair = b.pair; said = said; dest = dest }

-- what it leaves

-- what a crash leaves of the disks since they were handed in
abbrev pub LeavesSince : {D : Type 0} → DiskMeaning D → FilesState D → BookState D → Type 0
LeavesSince m f b =
    m.honest f.journal ≡ true → m.honest f.spare ≡ true → Only (m.content f.journal) (m.image f.journal) → Only (m.content f.spare) (m.image f.spare) → (one other : List ℕ) →
    m.since (first_disk b.pair) (m.moment f.journal) one → m.since (second_disk b.pair) (m.moment f.spare) other →
    OpensToFirst b.found.epoch b.found.payloads (payloads_in (all_messages b.core) (entries_left b)) one other

-- the book was opened over these files, and this holds of it and of its devices
pub record IsLeft {D : Type 0} (m : DiskMeaning D) (f : FilesState D) (b : BookState D) : Type 0 where
  pub files : IsOpenedFiles m f
  pub found : b.found ≡ f.pair
  pub legal : LegalQueue b.core.setting b.core.past
  pub settled : b.trouble ≡ None → SettledQueue b.core.setting b.core.past
  pub came : queue_count b.core.past ≡ length b.core.setting.messages
  -- the found deletions are those of the journal; the messages that arrived are valid, and 32 bits count them
  pub deletions : b.core.setting.deletions ≡ f.said.deletions
  pub valid : All (IsValidMessage b.core.setting.config.kind) b.core.setting.messages
  pub few : length b.core.setting.messages < 2 ^ 32
  pub journal : HasJournal m b
  pub since : LeavesSince m f b
  pub pair_kept : PairKeepsWhileUp m b.pair
  -- what a crash leaves since the opening, and what it leaves now if a disk failed
  pub opened_since : LeavesFirst m b.found b.pair (payloads_in (all_messages b.core) (entries_left b))
  pub pair_stopped : PairKeepsWhileDown m b.pair
  -- the messages that are still arriving change no payload of the history or of the entry in hand
  pub stays : payloads_in (all_messages b.core) (reverse b.core.past) ≡ payloads_in b.core.setting.messages (reverse b.core.past)
  pub hand : payloads_in (all_messages b.core) (in_hand b.trouble b.core.owed) ≡ payloads_in b.core.setting.messages (in_hand b.trouble b.core.owed)
  -- and the entry in hand may follow; exactly one was being written if a disk failed
  pub hand_follows : (e : Entry) → in_hand b.trouble b.core.owed ≡ e ∷ [] → MayFollowFront b.core.setting b.core.past e
  pub hand_is_one : b.trouble ≡ Some trouble.Disk → (e : Entry) × (payload : List ℕ) × (in_hand b.trouble b.core.owed ≡ e ∷ []) × (queue_payload b.core.setting.messages e ≡ Some payload)
