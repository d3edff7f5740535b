-- The laws that hold of every legal history of a queue's mapping, which has its newest entry first.
use Rattle.std.specs.Prelude.{◌≡◌, ℕ, ◌+◌, ◌<◌, true, false, IsTrue, List, ◌∷◌, ◌++◌, length, take, map, Option, Some, ◌⊎◌}
use Rattle.esm_model.specs.declared.item.Message.{Message}
use Rattle.esm_model.specs.declared.lane.LaneId.{LaneId}
use Rattle.esm_model.specs.declared.entry.Fate.{Fate}
use Rattle.esm_model.specs.declared.entry.WindowState.{WindowState}
use Rattle.esm_model.specs.declared.entry.Entry.{Entry}
use Rattle.esm_model.specs.declared.entry.Entry.TheVariants.{Began, Gave}
use Rattle.esm_model.specs.Entries.{holds}
use Rattle.esm_queue_model.specs.declared.stored.Stored.{Stored}
use Rattle.esm_queue_model.specs.Queue.{stored_at, same_group}
use Rattle.esm_queue_model.specs.QueueSetting.{QueueSetting, is_fifo, over_messages}
use Rattle.esm_queue_model.specs.QueueBatch.{queue_calls, queue_calls_since}
use Rattle.esm_queue_model.specs.QueueEntries.{queue_of, queue_count, is_deleted, deleted_count, waiting}

-- each message that is deleted was not deleted before, so a message is deleted at most once
abbrev pub DeletedOnce : QueueSetting → List Entry → Type 0
DeletedOnce s h =
    (later before : List Entry) (by : Option LaneId) (shard : ℕ) (places : List ℕ) (f : Fate) (line : Option (List ℕ)) (state : Option WindowState) (m : ℕ) → h ≡ later ++ Gave by shard places f line state m ∷ before
    → (i : ℕ) → IsTrue (holds places i) → is_deleted s before i ≡ false

-- when a batch of a FIFO queue begins, every earlier message of one of its groups is deleted or is in the batch too
abbrev pub OrderPerGroup : QueueSetting → List Entry → Type 0
OrderPerGroup s h =
    (later before : List Entry) (lane : LaneId) (places : List ℕ) (closing : Option ℕ) (m : ℕ) → h ≡ later ++ Began lane places closing m ∷ before
    → is_fifo s.config.kind ≡ true
    → (i j : ℕ) (x y : Stored) → stored_at (queue_of s before) i ≡ Some x → stored_at (queue_of s before) j ≡ Some y → same_group y x ≡ true
    → IsTrue (holds places i) → j < i
    → (y.deleted ≡ true) ⊎ IsTrue (holds places j)

-- the messages that arrived are the deleted and the waiting ones together, each once, and they are the setting's first ones,
-- in order
pub record EveryMessageCounted (s : QueueSetting) (h : List Entry) : Type 0 where
  pub counted : queue_count h ≡ deleted_count s h + length (waiting s h)
  pub messages : map (λ (x : Stored). x.message) (queue_of s h).messages ≡ take (queue_count h) s.messages

-- entries after a history add to the calls of a batcher those that end in them
abbrev pub QueueCallsKept : QueueSetting → (List ℕ → List ℕ) → List Entry → List Entry → ℕ → Type 0
QueueCallsKept s sends later before k = queue_calls s sends (later ++ before) k ≡ queue_calls s sends before k ++ queue_calls_since s sends later before k

-- lists of messages that extend the setting's own leave the calls of a batcher as they are
abbrev pub QueueCallsKeptOver : QueueSetting → (List ℕ → List ℕ) → List Entry → ℕ → List Message → Type 0
QueueCallsKeptOver s sends h k after = queue_calls (over_messages s after) sends h k ≡ queue_calls s sends h k
