-- What comes next by a queue's state alone, without its history. Only this crate's proofs cite this.
use Rattle.std.specs.Prelude.{ℕ, ◌==◌, nat_le, nat_lt, Bool, ◌&&◌, ◌||◌, List, [], ◌∷◌, length, filter_map, Option, Some, None, option_map, unwrap_or, slice_index, if◌then◌else◌}
use Rattle.esm_model.specs.declared.limits.TheConstants.{MAX_EVENT}
use Rattle.esm_model.specs.declared.config.Config.{Config}
use Rattle.esm_model.specs.declared.received.Received.{Received}
use Rattle.esm_model.specs.declared.book.Next.{Next}
use Rattle.esm_model.specs.declared.book.Next.TheVariants as next
use Rattle.esm_model.specs.Moment.{moment_after}
use Rattle.esm_model.specs.Batches.{longest}
use Rattle.esm_model.specs.QueueEvent.{queue_event_text}
use Rattle.esm_queue_model.specs.declared.stored.Stored.{Stored}
use Rattle.esm_queue_model.specs.Queue.{QueueState, stored_at, seen_at, received_once, after_receipt, seen, eligible, next_show}
use Rattle.esm_queue_model.specs.QueueEntries.{queue_lane}
use Rattle.esm_queue_core.specs.Next.{lesser_of}

-- the batch

-- the message at the place as its receiver sees it after one more receipt at the moment
abbrev pub received_at : ℕ → QueueState → ℕ → Option Received
received_at m q i = option_map (λ (x : Stored). seen_at i (received_once m x)) (stored_at q i)

-- the messages at the places, in order
abbrev pub received : ℕ → QueueState → List ℕ → List Received
received m q places = filter_map (received_at m q) places

-- the event of a call of these messages at the moment
abbrev pub event_in : Config → QueueState → ℕ → List ℕ → List ℕ
event_in c q m places = queue_event_text c (seen (after_receipt m places q) places)

-- the two limits: the batch size, and the length of the event's text
abbrev pub fits_in : Config → QueueState → ℕ → List ℕ → Bool
fits_in c q m places = nat_le (length places) c.batch_size && nat_le (length (event_in c q m places)) MAX_EVENT

-- the longest prefix of the eligible messages that meets them
abbrev pub batch_in : Config → QueueState → ℕ → List ℕ
batch_in c q m = longest (fits_in c q m) [] (eligible q m)

-- when it is called

-- the moment at which the message at the place came
abbrev pub came_in : QueueState → ℕ → ℕ
came_in q i = unwrap_or (option_map (λ (x : Stored). x.came) (stored_at q i)) 0

-- the moment at which the batching window of a batch that begins with the message is over
abbrev pub window_of : Config → QueueState → ℕ → ℕ
window_of c q i = moment_after (came_in q i) c.window_ms

abbrev pub window_in : Config → QueueState → List ℕ → Option ℕ
window_in c q [] = None
window_in c q (i ∷ places) = Some (window_of c q i)

-- a batch of `count` of `all` eligible messages is ready: it is full or cut, or the window is over, or the input ended
abbrev pub ready_test : ℕ → ℕ → ℕ → ℕ → Bool → ℕ → Bool
ready_test size count all over shut m = (count == size) || nat_lt count all || nat_le over m || shut

abbrev pub ready_in : Config → QueueState → Bool → ℕ → List ℕ → Bool
ready_in c q shut m batch = ready_test c.batch_size (length batch) (length (eligible q m)) (window_of c q (slice_index batch 0)) shut m

-- what comes next

-- if no message waits
abbrev pub rest_of : Bool → ℕ → Next
rest_of shut m = if shut then next.Finished else next.Idle (moment_after m 20)

-- the end of the pause, given the moment at which the window of a batch is over, if there is a batch
abbrev pub pause_with : QueueState → ℕ → Option ℕ → ℕ
pause_with q m over = unwrap_or (lesser_of (next_show q m) over) (moment_after m 20)

-- with this batch, if calls are left
abbrev pub next_in : Config → QueueState → Bool → ℕ → ℕ → List ℕ → Next
next_in c q shut k m [] = next.Idle (pause_with q m None)
next_in c q shut k m (i ∷ places) =
    if ready_in c q shut m (i ∷ places)
    then next.Call (record { lane = queue_lane k; places = i ∷ places; closing = None; event = event_in c q m (i ∷ places) })
    else next.Idle (pause_with q m (Some (window_of c q i)))
