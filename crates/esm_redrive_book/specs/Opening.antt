-- What opening a redrive finds in its journal and in its dead-letter file. This product's own.
use Rattle.std.specs.Prelude.{◌≡◌, ℕ, Bool, List, reverse, length, None, true}
use Rattle.esm_journal.specs.Pair.{PairState}
use Rattle.esm_model.specs.declared.config.Config.{Config}
use Rattle.esm_journal_state.specs.declared.error.SaysError.TheVariants as error
use Rattle.esm_journal_state.specs.Bad.{IsFirstBad}
use Rattle.esm_journal_state.specs.Meaning.{history, are_good}
use Rattle.esm_journal_state.specs.SaidLists.{SaidLists, IsInOrder}
use Rattle.esm_journal_state.specs.Tells.{Tells}
use Rattle.esm_queue_model.specs.QueueSetting.{is_fifo}
use Rattle.esm_redrive.specs.DeadFile as dead
use Rattle.esm_redrive.specs.DeadFile.{AreLetters, dead_ids}
use Rattle.esm_redrive_model.specs.RedriveSetting.{HaveSameIds}
use Rattle.esm_redrive_core.specs.RedriveView.{RedriveView, new_setting, new_view}
use Rattle.esm_redrive_book.specs.declared.open_error.RedriveOpen.{RedriveOpen}
use Rattle.esm_redrive_book.specs.declared.open_error.RedriveOpen.TheVariants.{BadPayload, BadLine, OutOfMemory}
use Rattle.esm_redrive_book.specs.Books.{BookState}

-- A core in which no message has arrived. No payload of the journal is bad, and the found deletions are those that its
-- payloads name, each place once and in ascending order. Each payload of the dead-letter file is a line of the queue's
-- kind, and the found ids are those of these lines.
pub record IsCoreOver (config : Config) (calls visibility max_receives : ℕ) (payloads lines : List (List ℕ)) (v : RedriveView) : Type 0 where
  pub good : are_good (reverse payloads) ≡ true
  pub said : SaidLists
  pub tells : Tells said (history (reverse payloads))
  pub order : IsInOrder said
  pub letters : AreLetters (is_fifo config.kind) lines (length lines)
  pub ids : List (List ℕ)
  pub same_ids : HaveSameIds ids (dead_ids (is_fifo config.kind) lines)
  pub is : v ≡ new_view (new_setting config calls visibility said.deletions max_receives ids)

-- a redrive over this journal and this dead-letter file with such a core
pub record IsOpened {D T : Type 0} (config : Config) (calls visibility max_receives : ℕ) (lines : List (List ℕ)) (pair : PairState D) (dest : T) (b : BookState D T) : Type 0 where
  pub core : IsCoreOver config calls visibility max_receives pair.payloads lines b.core
  pub pair_is : b.pair ≡ pair
  pub dest_is : b.dest ≡ dest
  pub found : b.found ≡ pair
  pub found_dest : b.found_dest ≡ dest
  pub trouble : b.trouble ≡ None

-- the payload with this index is the first that is bad for a book
abbrev pub IsBadJournal : List (List ℕ) → RedriveOpen → Type 0
IsBadJournal payloads (BadPayload i) = IsFirstBad payloads (error.BadPayload i)
IsBadJournal payloads (BadLine i) = ⊥
IsBadJournal payloads OutOfMemory = Unit {0}

-- the payload of the dead-letter file with this index is the first that is not a line of the queue's kind
abbrev pub IsBadFile : Bool → List (List ℕ) → RedriveOpen → Type 0
IsBadFile fifo lines (BadPayload i) = ⊥
IsBadFile fifo lines (BadLine i) = dead.IsFirstBad fifo lines i
IsBadFile fifo lines OutOfMemory = Unit {0}

-- the journal has a bad payload; or it has none, and the dead-letter file has a bad line
abbrev pub IsNotOpened : Config → (payloads lines : List (List ℕ)) → RedriveOpen → Type 0
IsNotOpened config payloads lines (BadPayload i) = IsBadJournal payloads (BadPayload i)
IsNotOpened config payloads lines (BadLine i) = (are_good (reverse payloads) ≡ true) × IsBadFile (is_fifo config.kind) lines (BadLine i)
IsNotOpened config payloads lines OutOfMemory = Unit {0}
