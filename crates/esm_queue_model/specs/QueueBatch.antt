-- The batch of a queue's call, when it is ready, and its event. Source: the Lambda Developer Guide, "Using Lambda with
-- Amazon SQS" and batching behavior (`BatchSize`, `MaximumBatchingWindowInSeconds`, 6 MB of payload).
use Rattle.std.specs.Prelude.{ℕ, ◌==◌, nat_lt, nat_le, Bool, ◌&&◌, ◌||◌, List, [], ◌∷◌, ◌++◌, length, slice_index, if◌then◌else◌}
use Rattle.esm_model.specs.declared.limits.TheConstants.{MAX_EVENT}
use Rattle.esm_model.specs.declared.lane.LaneId.{LaneId}
use Rattle.esm_model.specs.declared.entry.Entry.{Entry}
use Rattle.esm_model.specs.declared.entry.Entry.TheVariants.{Began, Ended}
use Rattle.esm_model.specs.declared.called.Called.{Called}
use Rattle.esm_model.specs.Moment.{moment_after}
use Rattle.esm_model.specs.Lane.{same_lane}
use Rattle.esm_model.specs.Entries.{is_shut, came_moment}
use Rattle.esm_model.specs.Batches.{longest}
use Rattle.esm_model.specs.QueueEvent.{queue_event_text}
use Rattle.esm_queue_model.specs.Queue.{QueueState, eligible, after_receipt, seen}
use Rattle.esm_queue_model.specs.QueueSetting.{QueueSetting}
use Rattle.esm_queue_model.specs.QueueEntries.{queue_of}

-- the event text of a call with these messages at the moment; it has the receive counts and first receipts that include the
-- call's own receipt
abbrev pub queue_event : QueueSetting → QueueState → ℕ → List ℕ → List ℕ
queue_event s q m places = queue_event_text s.config (seen (after_receipt m places q) places)

-- the places of the eligible messages, in order
abbrev pub eligible_after : QueueSetting → List Entry → ℕ → List ℕ
eligible_after s h m = eligible (queue_of s h) m

-- the two limits: the batch size, and the length of the event text
abbrev pub queue_fits : QueueSetting → List Entry → ℕ → List ℕ → Bool
queue_fits s h m places = nat_le (length places) s.config.batch_size && nat_le (length (queue_event s (queue_of s h) m places)) MAX_EVENT

-- the longest prefix of the eligible messages that meets the two limits at the moment
abbrev pub queue_batch : QueueSetting → List Entry → ℕ → List ℕ
queue_batch s h m = longest (queue_fits s h m) [] (eligible_after s h m)

-- the batch is full or shorter than the eligible messages, or its first message arrived at least the batching window ago, or
-- the input ended
abbrev pub is_batch_ready : QueueSetting → List Entry → ℕ → List ℕ → List ℕ → Bool
is_batch_ready s h m eligible batch =
    (length batch == s.config.batch_size)
    || nat_lt (length batch) (length eligible)
    || nat_le (moment_after (came_moment h 0 (slice_index batch 0)) s.config.window_ms) m
    || is_shut h

abbrev pub is_queue_ready : QueueSetting → List Entry → ℕ → Bool
is_queue_ready s h m = is_batch_ready s h m (eligible_after s h m) (queue_batch s h m)

-- the calls of a batcher

abbrev pub queue_event_after : QueueSetting → List Entry → LaneId → List ℕ → Entry → List ℕ
queue_event_after s h lane before (Began at places closing moment) = if same_lane at lane then queue_event s (queue_of s h) moment places else before
queue_event_after s h lane before _ = before

-- the event text of the lane's last call
abbrev pub last_queue_event : QueueSetting → List Entry → LaneId → List ℕ
last_queue_event s [] lane = []
last_queue_event s (e ∷ h) lane = queue_event_after s h lane (last_queue_event s h lane) e

abbrev pub queue_calls_after : QueueSetting → (List ℕ → List ℕ) → List Entry → ℕ → List Called → Entry → List Called
queue_calls_after s sends h k before (Ended lane reply moment) =
    if lane.lane == k
    then before ++ record { name = s.config.function; event = sends (last_queue_event s h lane); reply = reply } ∷ []
    else before
queue_calls_after s sends h k before _ = before

-- the calls of the batcher that ended, oldest first, as its caller logs them; `sends` maps an event to the bytes that the
-- caller sends
abbrev pub queue_calls : QueueSetting → (List ℕ → List ℕ) → List Entry → ℕ → List Called
queue_calls s sends [] k = []
queue_calls s sends (e ∷ h) k = queue_calls_after s sends h k (queue_calls s sends h k) e

-- the calls of the batcher that end in `later`, oldest first
abbrev pub queue_calls_since : QueueSetting → (List ℕ → List ℕ) → (later before : List Entry) → ℕ → List Called
queue_calls_since s sends [] before k = []
queue_calls_since s sends (e ∷ later) before k = queue_calls_after s sends (later ++ before) k (queue_calls_since s sends later before k) e
