-- What holds of every queue's book, whoever made its calls. This product's own.
use Rattle.std.specs.Prelude.{◌≡◌, ◌++◌, ℕ, List, [], ◌∷◌, Option, Some, None, false, reverse}
use Rattle.std.specs.List.{All}
use Rattle.esm_io.specs.Meanings.{DiskMeaning}
use Rattle.esm_model.specs.declared.book.Trouble.{Trouble}
use Rattle.esm_model.specs.declared.book.Trouble.TheVariants.{Disk, Dest, Changed}
use Rattle.esm_model.specs.declared.entry.Entry.{Entry}
use Rattle.esm_model.specs.declared.setup.Setup.{Setup}
use Rattle.esm_queue_model.specs.QueueBooks.{messages_told, IsOfQueue}
use Rattle.esm_queue_model.specs.QueueSetting.{QueueSetting}
use Rattle.esm_queue_model.specs.QueueStep.{LegalQueue, SettledQueue}
use Rattle.esm_journal_record.specs.EntryPayload.{queue_payload}
use Rattle.esm_book.specs.Hand.{FollowsFront}
use Rattle.esm_book.specs.State.{is_disk, in_hand}
use Rattle.esm_queue_core.specs.declared.decisions.Opened.{Opened}
use Rattle.esm_queue_core.specs.CoreView.{all_messages}
use Rattle.esm_queue_core.specs.Told.{told_of, IsChange}
use Rattle.esm_queue_book.specs.Books.{BookState, payloads_in}

-- the entry may follow the history, or a prefix of it that only ends of calls and of the input follow
abbrev pub MayFollowFront : QueueSetting → List Entry → Entry → Type 0
MayFollowFront s h e = FollowsFront (λ before x. LegalQueue s (x ∷ before)) h e

-- The history is legal over the messages that came, each `Came` has those that it covers beside it, and if the book is not
-- down the history is settled.
pub record IsSound {D : Type 0} (b : BookState D) : Type 0 where
  -- the messages that came are those of the history
  pub messages : b.core.setting.messages ≡ messages_told (told_of b.core)
  pub of_queue : All (IsOfQueue b.core.setting.config.kind) (told_of b.core)
  pub legal : LegalQueue b.core.setting b.core.past
  pub settled : b.trouble ≡ None → SettledQueue b.core.setting b.core.past
  -- a book that is not down owes nothing
  pub none_owed : b.trouble ≡ None → b.core.owed ≡ []
  -- if nothing is owed no message is coming
  pub none_coming : b.core.owed ≡ [] → b.core.coming ≡ []
  -- the history has the same payloads over the messages that came alone
  pub stays : payloads_in (all_messages b.core) (reverse b.core.past) ≡ payloads_in b.core.setting.messages (reverse b.core.past)
  -- and so has the entry that was being written, if a disk failed
  pub hand : payloads_in (all_messages b.core) (in_hand b.trouble b.core.owed) ≡ payloads_in b.core.setting.messages (in_hand b.trouble b.core.owed)
  -- which may follow the history, or a prefix of it that only ends of calls and of the input follow
  pub hand_follows : (e : Entry) → in_hand b.trouble b.core.owed ≡ e ∷ [] → MayFollowFront b.core.setting b.core.past e
  -- if a disk failed, exactly one entry was being written, and it has a payload
  pub hand_is_one : b.trouble ≡ Some Disk → (e : Entry) × (payload : List ℕ) × (in_hand b.trouble b.core.owed ≡ e ∷ []) × (queue_payload b.core.setting.messages e ≡ Some payload)

-- the setup is that of the book, whatever it says of the journal
pub record IsSetupOf {D : Type 0} (setup : Setup) (b : BookState D) : Type 0 where
  pub config : setup.config ≡ b.core.setting.config
  pub calls : setup.calls ≡ b.core.setting.calls
  pub visibility : setup.visibility_ms ≡ b.core.setting.visibility
  pub deletions : setup.deletions ≡ b.core.setting.deletions

-- why a book is down: a disk failed since the opening, or a message was found deleted and came with another id
abbrev pub IsCause : Type 0 → Opened → Option Trouble → Type 0
IsCause disk_failed o None = Unit {0}
IsCause disk_failed o (Some Disk) = disk_failed
IsCause disk_failed o (Some Dest) = ⊥
IsCause disk_failed o (Some (Changed change)) = IsChange o change

-- The journal has what was found and then the payloads of the history. It is the pair that was opened, and is down if and
-- only if a disk failed.
pub record HasJournal {D : Type 0} (m : DiskMeaning D) (b : BookState D) : Type 0 where
  pub payloads : b.pair.payloads ≡ b.found.payloads ++ payloads_in (all_messages b.core) (reverse b.core.past)
  pub down : b.pair.down ≡ is_disk b.trouble
  pub found_up : b.found.down ≡ false
  pub epoch : b.pair.epoch ≡ b.found.epoch
  pub swapped : b.pair.swapped ≡ b.found.swapped
  pub spare : b.pair.spare ≡ b.found.spare
  pub honesty : m.honest b.pair.used ≡ m.honest b.found.used

-- the entries whose payloads a crash may leave: those of the history, and if a disk failed the one that was being written
abbrev pub entries_left : {D : Type 0} → BookState D → List Entry
entries_left b = reverse b.core.past ++ in_hand b.trouble b.core.owed
