-- The messages that arrived at a queue's book from its input. This product's own.
use Rattle.std.specs.Prelude.{◌≡◌, ◌++◌, true, List}
use Rattle.esm_model.specs.declared.item.Message.{Message}
use Rattle.esm_model.specs.Entries.{is_shut}
use Rattle.esm_queue_book.specs.Books.{BookState}
pub use Rattle.esm_queue_book.specs.Coming.{messages_in_items}

-- the messages of the list arrived, in its order
abbrev pub HaveCome : {D : Type 0} → BookState D → List Message → Type 0
HaveCome b messages = b.core.setting.messages ≡ messages

-- a prefix of them arrived
abbrev pub SomeCame : {D : Type 0} → BookState D → List Message → Type 0
SomeCame b messages = (rest : List Message) × (messages ≡ b.core.setting.messages ++ rest)

-- all of them arrived, and the end of the input was noted
pub record AllCame {D : Type 0} (b : BookState D) (messages : List Message) : Type 0 where
  pub came : HaveCome b messages
  pub shut : is_shut b.core.past ≡ true
