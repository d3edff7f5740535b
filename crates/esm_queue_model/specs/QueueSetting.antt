-- The setting of a history of a queue's mapping: what its entries are judged against. This product's own.
use Rattle.std.specs.Prelude.{ℕ, ◌≡◌, ◌==◌, Bool, true, false, List, find, filter_map, map, Option, Some, is_some, slice_get}
use Rattle.esm_model.specs.declared.config.Config.{Config}
use Rattle.esm_model.specs.declared.config.Kind.{Kind}
use Rattle.esm_model.specs.declared.config.Kind.TheVariants.{Stream, Standard, Fifo}
use Rattle.esm_model.specs.declared.item.Message.{Message}
use Rattle.esm_model.specs.declared.setup.FoundDeletion.{FoundDeletion}

-- the configuration, the calls allowed, the visibility timeout in milliseconds, the messages by place, and the deletions
-- that were found in the journal at opening
pub record QueueSetting : Type 0 where
  pub config : Config
  pub calls : ℕ
  pub visibility : ℕ
  pub messages : List Message
  pub deletions : List FoundDeletion

abbrev pub is_fifo : Kind → Bool
is_fifo Fifo = true
is_fifo Standard = false
is_fifo Stream = false

-- the message at a place
abbrev pub message_at : QueueSetting → ℕ → Option Message
message_at s i = slice_get s.messages i

-- the ids of the messages at the places, in order
abbrev pub ids_at : QueueSetting → List ℕ → List (List ℕ)
ids_at s places = map (λ (m : Message). m.id) (filter_map (message_at s) places)

-- the found deletion of a place
abbrev pub found_deletion : QueueSetting → ℕ → Option FoundDeletion
found_deletion s i = find (λ (f : FoundDeletion). f.place == i) s.deletions

-- the message at the place was found deleted
abbrev pub is_found : QueueSetting → ℕ → Bool
is_found s i = is_some (found_deletion s i)

-- other messages

-- the same setting over another list of messages
abbrev pub over_messages : QueueSetting → List Message → QueueSetting
over_messages s messages = record s { messages = messages }

-- each message of the first list is in the second one, at the same place
abbrev pub ExtendsMessages : List Message → List Message → Type 0
ExtendsMessages before after = (i : ℕ) (m : Message) → slice_get before i ≡ Some m → slice_get after i ≡ Some m
