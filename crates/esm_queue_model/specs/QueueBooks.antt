-- The shared history of a queue's book, which threads pass on: its setting and its entries, which seat adds an entry, and
-- which entry may come next. This product's own. A list of `Told` has its oldest entry first, a list of entries its newest.
use Rattle.std.specs.Prelude.{◌≡◌, ℕ, suc, List, [], ◌∷◌, ◌++◌, length, Option, Some, None}
use Rattle.std.specs.List.{All}
use Rattle.esm_model.specs.declared.config.Kind.{Kind}
use Rattle.esm_model.specs.declared.item.Message.{Message}
use Rattle.esm_model.specs.declared.lane.LaneId.{LaneId}
use Rattle.esm_model.specs.declared.entry.Entry.{Entry}
use Rattle.esm_model.specs.declared.entry.Entry.TheVariants.{Came}
use Rattle.esm_model.specs.declared.setup.Told.{Told}
use Rattle.esm_model.specs.declared.setup.Setup.{Setup}
use Rattle.esm_model.specs.Entries.{moment_of}
use Rattle.esm_model.specs.Step.{IsLater}
use Rattle.esm_model.specs.Books.{entries_told, lane_of_entry}
use Rattle.esm_model.specs.ValidMessage.{IsValidMessage}
use Rattle.esm_queue_model.specs.QueueSetting.{QueueSetting, ExtendsMessages, over_messages}
use Rattle.esm_queue_model.specs.QueueStep.{QueueMayFollow}

-- messages

-- the messages that an entry holds, where it is a `Came`
abbrev pub messages_with : List Message → Entry → List Message
messages_with messages (Came shard first count moment) = messages
messages_with messages _ = []

-- the messages that the `Came` entries of a history hold, in order
abbrev pub messages_told : List Told → List Message
messages_told [] = []
messages_told (t ∷ ts) = messages_with t.messages t.entry ++ messages_told ts

-- the setting of a book that was opened with the setup: its messages are those that its history holds
abbrev pub queue_setting_told : Setup → List Told → QueueSetting
queue_setting_told setup history = record {
  config = setup.config;
  calls = setup.calls;
  visibility = setup.visibility_ms;
  messages = messages_told history;
  deletions = setup.deletions;
}

-- authors

-- the seat of the lane's batcher, whose number is the lane's; the reader has seat 0
abbrev pub queue_seat : Option LaneId → ℕ
queue_seat None = 0
queue_seat (Some lane) = suc lane.lane

-- the seat that adds an entry after the history
abbrev pub queue_author : Setup → List Told → Told → ℕ
queue_author setup history t = queue_seat (lane_of_entry t.entry)

-- which entry may come next

-- the messages that a `Came` covers: `count` of them, each valid
pub record AreCoveredMessages (kind : Kind) (shard count : ℕ) (messages : List Message) : Type 0 where
  pub queue : shard ≡ 0
  pub number : length messages ≡ count
  pub valid : All (IsValidMessage kind) messages

-- the entry holds these messages: a `Came` those that it covers, and every other entry none
abbrev pub MessagesStandWith : Kind → Entry → List Message → Type 0
MessagesStandWith kind (Came shard first count moment) messages = AreCoveredMessages kind shard count messages
MessagesStandWith kind _ messages = messages ≡ []

-- the entry is one of a queue's book: it holds its messages, and no records
pub record IsOfQueue (kind : Kind) (t : Told) : Type 0 where
  pub messages : MessagesStandWith kind t.entry t.messages
  pub no_records : t.records ≡ []

-- the entry may follow the history over every list of messages that extends those told, its own included
pub record TellsQueue (setup : Setup) (history : List Told) (t : Told) : Type 0 where
  pub of_queue : IsOfQueue setup.config.kind t
  pub later : IsLater (entries_told history) (moment_of t.entry)
  pub row : (messages : List Message) → ExtendsMessages (messages_told (history ++ t ∷ [])) messages → QueueMayFollow (over_messages (queue_setting_told setup history) messages) (entries_told history) t.entry

abbrev pub queue_may_follow : Setup → List Told → Told → Type 0
queue_may_follow setup history t = TellsQueue setup history t
