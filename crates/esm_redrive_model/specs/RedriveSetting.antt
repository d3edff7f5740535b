-- The setting of a history of a redrive: a queue's setting, the limit of receives, and the ids of the dead-letter file.
-- Source: the Amazon SQS Developer Guide, "Using dead-letter queues" (`maxReceiveCount`).
use Rattle.std.specs.Prelude.{◌≡◌, ℕ, Bool, List}
use Rattle.std.specs.List.{list_any}
use Rattle.std.specs.Str.{bytes_eq}
use Rattle.esm_model.specs.declared.item.Message.{Message}
use Rattle.esm_queue_model.specs.QueueSetting.{QueueSetting, over_messages}

-- the queue, how often a message may be received, and the message ids in the lines of the dead-letter file at opening
pub record RedriveSetting : Type 0 where
  pub queue : QueueSetting
  pub max_receives : ℕ
  pub dead_ids : List (List ℕ)

-- the id is one of the ids
abbrev pub stands_among : List (List ℕ) → List ℕ → Bool
stands_among ids id = list_any (bytes_eq id) ids

-- the message's id is in a line that was found in the dead-letter file
abbrev pub has_dead_id : RedriveSetting → Message → Bool
has_dead_id s m = stands_among s.dead_ids m.id

-- the same setting over another list of messages
abbrev pub redrive_over : RedriveSetting → List Message → RedriveSetting
redrive_over s messages = record s { queue = over_messages s.queue messages }

-- other lines

-- the two lists have the same ids, regardless of how often and in which order
abbrev pub HaveSameIds : List (List ℕ) → List (List ℕ) → Type 0
HaveSameIds ids others = (id : List ℕ) → stands_among ids id ≡ stands_among others id

-- the same setting over another list of ids
abbrev pub with_dead_ids : RedriveSetting → List (List ℕ) → RedriveSetting
with_dead_ids s ids = record s { dead_ids = ids }
