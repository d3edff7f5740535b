-- What is left of a queue, and which items came, by the history that the seats of a turn share. This product's own.
use Rattle.std.specs.Prelude.{◌≡◌, ◌<◌, ℕ, zero, suc, true, false, List, [], map}
use Rattle.esm_model.specs.declared.setup.Setup.{Setup}
use Rattle.esm_model.specs.declared.setup.Told.{Told}
use Rattle.esm_model.specs.declared.entry.Entry.{Entry}
use Rattle.esm_model.specs.Books.{entries_told}
use Rattle.esm_model.specs.Entries.{is_shut, calls_begun}
use Rattle.esm_model.specs.declared.item.Item.{Item}
use Rattle.esm_model.specs.declared.item.Item.TheVariants as items
use Rattle.esm_model.specs.declared.item.LineKind.{LineKind}
use Rattle.esm_model.specs.declared.item.LineKind.TheVariants as kinds
use Rattle.esm_queue_model.specs.QueueSetting.{QueueSetting, is_fifo}
use Rattle.esm_queue_model.specs.QueueEntries.{queue_count, is_deleted}
use Rattle.esm_queue_model.specs.QueueBooks.{messages_told, queue_setting_told}

-- every message that came is deleted
abbrev pub AllDeleted : QueueSetting → List Entry → Type 0
AllDeleted s h = (i : ℕ) → i < queue_count h → is_deleted s h i ≡ true

-- a message that came is not deleted
pub record HasWaiting (s : QueueSetting) (h : List Entry) : Type 0 where
  pub place : ℕ
  pub came : place < queue_count h
  pub waits : is_deleted s h place ≡ false

-- the input has ended, and every message that came is deleted, whatever the batcher
pub record QueueFinished (setup : Setup) (history : List Told) (k : ℕ) : Type 0 where
  pub shut : is_shut (entries_told history) ≡ true
  pub deleted : AllDeleted (queue_setting_told setup history) (entries_told history)

-- a message is left for it
abbrev pub QueueLeft : Setup → List Told → ℕ → Type 0
QueueLeft setup history k = HasWaiting (queue_setting_told setup history) (entries_told history)

-- all calls allowed began
abbrev pub QueueSpent : Setup → List Told → Type 0
QueueSpent setup history = calls_begun (entries_told history) ≡ setup.calls

-- the lines of the input of a queue of the kind
abbrev pub queue_lines : Setup → LineKind
queue_lines setup = kinds.Queue (is_fifo setup.config.kind)

-- the items of the shard that came, in their order; a queue is shard 0
abbrev pub queue_items : List Told → ℕ → List Item
queue_items history zero = map items.Queue (messages_told history)
queue_items history (suc n) = []
