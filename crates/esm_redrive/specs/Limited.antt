-- A queue with a limit of receives for each message, and which messages are due. Source: the Amazon SQS Developer Guide,
-- "Using dead-letter queues" (`maxReceiveCount`).
use Rattle.std.specs.Prelude.{◌≡◌, ℕ, nat_le, Bool, List, filter}
use Rattle.esm_model.specs.declared.entry.Entry.{Entry}
use Rattle.esm_queue_model.specs.Queue.{QueueState, eligible, count_at}
use Rattle.esm_queue_model.specs.QueueEntries.{queue_of}
use Rattle.esm_redrive_model.specs.RedriveSetting.{RedriveSetting}
use Rattle.esm_redrive_model.specs.Due.{due}

-- its state, how often each message may be received, for how many more messages there is room, and a moment at which
-- messages can be made to show again without taking memory
pub record Limited : Type 0 where
  pub state : QueueState
  pub max_receives : ℕ
  pub spare : ℕ
  pub ready : ℕ

-- the message at the place was received as often as it may be
abbrev pub is_spent : ℕ → QueueState → ℕ → Bool
is_spent max q i = nat_le max (count_at q i)

-- the messages that are due at the moment, by place: the eligible ones that were received as often as they may be
abbrev pub due_in : ℕ → QueueState → ℕ → List ℕ
due_in max q m = filter (is_spent max q) (eligible q m)

-- the messages that are due after a history are those that are due in the queue after it
abbrev pub IsDueByQueue : RedriveSetting → List Entry → Type 0
IsDueByQueue s h = (m : ℕ) → due s h m ≡ due_in s.max_receives (queue_of s.queue h) m
