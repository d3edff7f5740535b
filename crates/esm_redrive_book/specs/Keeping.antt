-- What is true of every book of a redrive, whoever made its calls. This product's own.
use Rattle.std.specs.Prelude.{◌≡◌, ◌++◌, ℕ, false, List, [], ◌∷◌, Option, Some, None, reverse}
use Rattle.esm_model.specs.declared.entry.Entry.{Entry}
use Rattle.esm_model.specs.declared.item.Message.{Message}
use Rattle.esm_model.specs.declared.book.Change.{Change}
use Rattle.esm_model.specs.declared.book.Trouble.{Trouble}
use Rattle.esm_model.specs.declared.book.Trouble.TheVariants.{Disk, Dest, Changed}
use Rattle.esm_book.specs.Hand as book
use Rattle.esm_book.specs.State.{in_hand, in_delivery}
use Rattle.esm_model.specs.Books.{entry_line}
use Rattle.esm_model.specs.Entries.{is_shut}
use Rattle.esm_queue_model.specs.QueueSetting.{ExtendsMessages}
use Rattle.esm_queue_model.specs.QueueStep.{unsorted_messages}
use Rattle.esm_redrive_model.specs.RedriveSetting.{RedriveSetting, redrive_over}
use Rattle.esm_redrive_model.specs.RedriveStep.{LegalRedrive, SettledRedrive}
use Rattle.esm_redrive_model.specs.Due.{known}
use Rattle.esm_redrive_core.specs.declared.decisions.RedriveEntry.{RedriveEntry}
use Rattle.esm_redrive_core.specs.declared.decisions.RedriveOpened.{RedriveOpened}
use Rattle.esm_redrive_core.specs.Ahead.{comes_first}
use Rattle.esm_redrive_core.specs.Told.{history_of, owed_of, redrive_entry, IsChange}
use Rattle.esm_redrive_book.specs.Books.{BookState, payload_in}

-- the history with the entry is legal over every list that extends the messages that arrived
abbrev pub MayFollow : RedriveSetting → List Entry → Entry → Type 0
MayFollow s h e = (messages : List Message) → ExtendsMessages s.queue.messages messages → LegalRedrive (redrive_over s messages) (e ∷ h)

-- the entry may follow a prefix of the history, after which only calls and the input ended
abbrev pub FollowsFront : RedriveSetting → List Entry → Entry → Type 0
FollowsFront s h e = book.FollowsFront (MayFollow s) h e

-- the input has not ended, and each waiting message passes the filter and has no line that was found
pub record IsSorted (s : RedriveSetting) (h : List Entry) : Type 0 where
  pub going : is_shut h ≡ false
  pub recorded : known s h ≡ []
  pub sorted : unsorted_messages s.queue h ≡ []

-- The history is legal over the messages that arrived, and no others are arriving. If the book is not down, nothing is
-- owed and nothing is required. If a message arrived with another id than was kept, which happens before the end of the
-- input, no message remains to be recorded or filtered. The entry that was being written when a disk failed may follow a
-- prefix of the history, and so may the one whose line was being delivered when the dead-letter file failed. If a disk
-- failed, exactly one entry was being written, and it has a payload; if the dead-letter file failed, the line of exactly
-- one was being delivered.
pub record IsSound {D T : Type 0} (b : BookState D T) : Type 0 where
  pub legal : LegalRedrive b.core.setting b.core.past
  pub settled : b.trouble ≡ None → SettledRedrive b.core.setting b.core.past
  pub changed : (change : Change) → b.trouble ≡ Some (Changed change) → IsSorted b.core.setting b.core.past
  pub hand : (e : Entry) → in_hand b.trouble b.core.owed ≡ e ∷ [] → FollowsFront b.core.setting b.core.past e
  pub tried : (e : Entry) → in_delivery b.trouble b.core.owed ≡ e ∷ [] → FollowsFront b.core.setting b.core.past e
  pub hand_is_one : b.trouble ≡ Some Disk → (e : Entry) × (payload : List ℕ) × (in_hand b.trouble b.core.owed ≡ e ∷ []) × (payload_in (redrive_entry b.core.setting.queue.messages e) ≡ Some payload)
  pub tried_is_one : b.trouble ≡ Some Dest → (e : Entry) × (line : List ℕ) × (in_delivery b.trouble b.core.owed ≡ e ∷ []) × (entry_line e ≡ Some line)
  pub none_owed : b.trouble ≡ None → b.core.owed ≡ []
  pub none_coming : comes_first b.core.owed ≡ false

-- why a book is down: a disk of the journal or the dead-letter file failed since the opening, or a message that was found
-- deleted arrived with another id
abbrev pub IsCause : (disk_failed dest_failed : Type 0) → RedriveOpened → Option Trouble → Type 0
IsCause disk_failed dest_failed o None = Unit {0}
IsCause disk_failed dest_failed o (Some Disk) = disk_failed
IsCause disk_failed dest_failed o (Some Dest) = dest_failed
IsCause disk_failed dest_failed o (Some (Changed change)) = IsChange o change

-- the entries whose payloads a crash may leave: those of the history, and if a disk failed, the one that was being
-- written
abbrev pub entries_left : {D T : Type 0} → BookState D T → List RedriveEntry
entries_left b = reverse (history_of b.core) ++ in_hand b.trouble (owed_of b.core)

-- those whose lines a crash may leave: the same, and if the dead-letter file failed, the one whose line was being
-- delivered
abbrev pub lines_left : {D T : Type 0} → BookState D T → List RedriveEntry
lines_left b = entries_left b ++ in_delivery b.trouble (owed_of b.core)
