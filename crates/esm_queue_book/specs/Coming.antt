-- The messages of items that come to a queue's book, and which of them is the first that differs from what was kept. This
-- product's own.
use Rattle.std.specs.Prelude.{◌≡◌, ◌+◌, ℕ, List, [], ◌∷◌, length, slice_get, Some, ⊤}
use Rattle.esm_model.specs.declared.book.Change.{Change}
use Rattle.esm_model.specs.declared.item.Message.{Message}
use Rattle.esm_model.specs.declared.setup.Setup.{Setup}
use Rattle.esm_model.specs.declared.setup.Told.{Told}
use Rattle.esm_model.specs.declared.item.Item.{Item}
use Rattle.esm_model.specs.declared.item.Item.TheVariants.{Stream, Queue}
use Rattle.esm_queue_model.specs.QueueBooks.{messages_told}
use Rattle.esm_queue_core.specs.Coming.{IsChangeOf, NoneHasChanged}

-- the item is a message
abbrev pub IsMessage : Item → Type 0
IsMessage (Stream r) = ⊥
IsMessage (Queue m) = ⊤

-- the messages of items
abbrev pub messages_in_items : List Item → List Message
messages_in_items [] = []
messages_in_items (Stream r ∷ items) = messages_in_items items
messages_in_items (Queue m ∷ items) = m ∷ messages_in_items items

-- the change is that of the first message of a list that is to come that was found deleted with another id
pub record QueueDiffers (setup : Setup) (history : List Told) (list : List Item) (change : Change) : Type 0 where
  pub position : ℕ
  pub message : Message
  pub at : slice_get (messages_in_items list) position ≡ Some message
  pub change_is : IsChangeOf setup.deletions (length (messages_told history) + position) message change
  pub before : NoneHasChanged setup.deletions (length (messages_told history)) (messages_in_items list) position
