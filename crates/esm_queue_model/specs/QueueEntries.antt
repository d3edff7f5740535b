-- The queue after a history of its mapping, which has its newest entry first: a `Came` adds messages, a `Began` receives its
-- batch, and a `Gave` deletes its messages. In a queue's entries the shard is 0 and a lane's number is that of its batcher.
-- This product's own.
use Rattle.std.specs.Prelude.{ℕ, ◌+◌, Bool, not, List, [], ◌∷◌, ◌++◌, length, take, drop, filter, Option, option_map}
use Rattle.std.specs.Option.{option_or}
use Rattle.esm_model.specs.declared.item.Message.{Message}
use Rattle.esm_model.specs.declared.lane.LaneId.{LaneId}
use Rattle.esm_model.specs.declared.entry.Fate.{Fate}
use Rattle.esm_model.specs.declared.entry.Entry.{Entry}
use Rattle.esm_model.specs.declared.entry.Entry.TheVariants.{Came, Began, Gave}
use Rattle.esm_model.specs.declared.setup.FoundDeletion.{FoundDeletion}
use Rattle.esm_model.specs.Entries.{came_count}
use Rattle.esm_model.specs.Fates.{below, given, is_fate}
use Rattle.esm_queue_model.specs.declared.stored.Stored.{Stored}
use Rattle.esm_queue_model.specs.Queue.{QueueState, empty_queue, arrived, after_receipt, after_deletion, is_deleted_at}
use Rattle.esm_queue_model.specs.QueueSetting.{QueueSetting, is_fifo, found_deletion, is_found}

-- the lane of a batcher
abbrev pub queue_lane : ℕ → LaneId
queue_lane k = record { shard = 0; lane = k }

-- the queue

-- a message that arrives; one that was found deleted is deleted from the start
abbrev pub coming : QueueSetting → ℕ → ℕ → Message → Stored
coming s m i message = record (arrived message m) { deleted = is_found s i }

-- the messages from place k on, which arrive at the moment
abbrev pub coming_from : QueueSetting → ℕ → ℕ → List Message → List Stored
coming_from s m k [] = []
coming_from s m k (x ∷ xs) = coming s m k x ∷ coming_from s m (k + 1) xs

abbrev pub after_coming : QueueSetting → ℕ → ℕ → ℕ → QueueState → QueueState
after_coming s first count m q = record q { messages = q.messages ++ coming_from s m first (take count (drop first s.messages)) }

abbrev pub queue_after : QueueSetting → QueueState → Entry → QueueState
queue_after s before (Came shard first count moment) = after_coming s first count moment before
queue_after s before (Began lane places closing moment) = after_receipt moment places before
queue_after s before (Gave by shard places fate line state moment) = after_deletion places before
queue_after s before _ = before

-- the queue after the whole history
abbrev pub queue_of : QueueSetting → List Entry → QueueState
queue_of s [] = empty_queue (is_fifo s.config.kind) s.visibility
queue_of s (e ∷ h) = queue_after s (queue_of s h) e

-- the number of messages that arrived
abbrev pub queue_count : List Entry → ℕ
queue_count h = came_count h 0

-- the message at the place is deleted
abbrev pub is_deleted : QueueSetting → List Entry → ℕ → Bool
is_deleted s h i = is_deleted_at (queue_of s h) i

-- the places of the messages that arrived and wait: those that are not deleted
abbrev pub waiting : QueueSetting → List Entry → List ℕ
waiting s h = filter (λ i. not (is_deleted s h i)) (below (queue_count h))

-- fates

-- the fate with which a message is deleted: the one found in the journal, or else that of the `Gave` that names it
abbrev pub deletion_fate : QueueSetting → List Entry → ℕ → Option Fate
deletion_fate s h i = option_or (option_map (λ (f : FoundDeletion). f.fate) (found_deletion s i)) (given h 0 i)

-- the number of messages that arrived and are deleted, and the number of those that have this fate
abbrev pub deleted_count : QueueSetting → List Entry → ℕ
deleted_count s h = length (filter (is_deleted s h) (below (queue_count h)))

abbrev pub deleted_with : QueueSetting → List Entry → Fate → ℕ
deleted_with s h f = length (filter (λ i. is_fate f (deletion_fate s h i)) (below (queue_count h)))
