-- The state of a queue: its messages in order of arrival, which of them are hidden and which eligible, and what a receipt, a
-- deletion and an arrival change. Sources: the Amazon SQS Developer Guide, "visibility timeout" and "FIFO queue delivery
-- logic" (a message in flight holds back the later ones of its message group), and its system attributes
-- `ApproximateReceiveCount` and `ApproximateFirstReceiveTimestamp`. A place is a position in the list, counted from 0.
use Rattle.std.specs.Prelude.{ℕ, ◌+◌, nat_lt, min, Bool, true, false, not, ◌&&◌, List, [], ◌∷◌, ◌++◌, length, take, map, filter, filter_map, Option, Some, None, option_map, unwrap_or, slice_get, if◌then◌else◌}
use Rattle.std.specs.List.{list_any}
use Rattle.std.specs.Option.{option_or}
use Rattle.std.specs.Str.{bytes_eq}
use Rattle.esm_model.specs.declared.item.Message.{Message}
use Rattle.esm_model.specs.declared.received.Received.{Received}
use Rattle.esm_model.specs.Moment.{moment_after}
use Rattle.esm_model.specs.Entries.{holds}
use Rattle.esm_model.specs.Fates.{below}
use Rattle.esm_queue_model.specs.declared.stored.Stored.{Stored}
use Rattle.esm_queue_model.specs.declared.stored.TheConstants.{MAX_COUNT}

-- a queue: its kind, the visibility timeout in milliseconds, and its messages in order of arrival
pub record QueueState : Type 0 where
  pub fifo : Bool
  pub visibility : ℕ
  pub messages : List Stored

-- hidden messages

-- the moment at which a message with this last receipt becomes visible: a receipt hides it for the visibility timeout
abbrev pub show_after : ℕ → Option ℕ → ℕ
show_after visibility None = 0
show_after visibility (Some receipt) = moment_after receipt visibility

-- the message is hidden at the moment
abbrev pub is_hidden : ℕ → ℕ → Stored → Bool
is_hidden visibility m x = nat_lt m (show_after visibility x.last)

-- the message is neither deleted nor hidden
abbrev pub is_shown : ℕ → ℕ → Stored → Bool
is_shown visibility m x = not x.deleted && not (is_hidden visibility m x)

-- the message is in flight: hidden and not deleted
abbrev pub is_in_flight : ℕ → ℕ → Stored → Bool
is_in_flight visibility m x = not x.deleted && is_hidden visibility m x

-- eligible messages

abbrev pub is_group : Option (List ℕ) → Option (List ℕ) → Bool
is_group (Some a) (Some b) = bytes_eq a b
is_group _ _ = false

-- the two messages have the same message group
abbrev pub same_group : Stored → Stored → Bool
same_group x y = is_group x.message.group y.message.group

-- one of the earlier messages holds the message back: it has the same group and is in flight
abbrev pub is_held_back : ℕ → ℕ → List Stored → Stored → Bool
is_held_back visibility m earlier x = list_any (λ y. same_group y x && is_in_flight visibility m y) earlier

-- the message may be received, given the messages before it; only in a FIFO queue can one be held back
abbrev pub is_receivable : QueueState → ℕ → List Stored → Stored → Bool
is_receivable q m earlier x = is_shown q.visibility m x && not (q.fifo && is_held_back q.visibility m earlier x)

-- the message at a place
abbrev pub stored_at : QueueState → ℕ → Option Stored
stored_at q i = slice_get q.messages i

-- the message at the place may be received at the moment
abbrev pub is_eligible : QueueState → ℕ → ℕ → Bool
is_eligible q m i = unwrap_or (option_map (is_receivable q m (take i q.messages)) (stored_at q i)) false

-- the places of all eligible messages, in order
abbrev pub eligible : QueueState → ℕ → List ℕ
eligible q m = filter (is_eligible q m) (below (length q.messages))

-- the first eligible messages, at most `max`: those that a receipt takes
abbrev pub receivable : QueueState → ℕ → ℕ → List ℕ
receivable q m max = take max (eligible q m)

-- what changes a queue

-- the messages from place k on, with those at the places changed
abbrev pub changed_from : (Stored → Stored) → List ℕ → ℕ → List Stored → List Stored
changed_from f places k [] = []
changed_from f places k (x ∷ xs) = (if holds places k then f x else x) ∷ changed_from f places (k + 1) xs

-- the queue with the messages at the places changed
abbrev pub changed : (Stored → Stored) → List ℕ → QueueState → QueueState
changed f places q = record q { messages = changed_from f places 0 q.messages }

-- the message is received once more; its first receipt stays, and its count is capped at `MAX_COUNT`
abbrev pub received_once : ℕ → Stored → Stored
received_once m x = record {
  message = x.message;
  came = x.came;
  first = option_or x.first (Some m);
  last = Some m;
  count = min (x.count + 1) MAX_COUNT;
  deleted = x.deleted;
}

abbrev pub deleted_once : Stored → Stored
deleted_once x = record x { deleted = true }

-- the queue after a receipt of the messages at the places
abbrev pub after_receipt : ℕ → List ℕ → QueueState → QueueState
after_receipt m places q = changed (received_once m) places q

-- the queue after the messages at the places are deleted
abbrev pub after_deletion : List ℕ → QueueState → QueueState
after_deletion places q = changed deleted_once places q

-- a message that was not received yet
abbrev pub arrived : Message → ℕ → Stored
arrived message m = record { message = message; came = m; first = None; last = None; count = 0; deleted = false }

-- the queue after a message arrived
abbrev pub after_arrival : Message → ℕ → QueueState → QueueState
after_arrival message m q = record q { messages = q.messages ++ arrived message m ∷ [] }

-- a queue in which no message arrived
abbrev pub empty_queue : Bool → ℕ → QueueState
empty_queue fifo visibility = record { fifo = fifo; visibility = visibility; messages = [] }

-- what a queue shows

-- a message as its receiver sees it
abbrev pub seen_at : ℕ → Stored → Received
seen_at i x = record { message = x.message; place = i; count = x.count; first = unwrap_or x.first 0 }

-- the messages at the places as their receiver sees them, in order
abbrev pub seen : QueueState → List ℕ → List Received
seen q places = filter_map (λ i. option_map (seen_at i) (stored_at q i)) places

-- there is a message at the place, and it is deleted
abbrev pub is_deleted_at : QueueState → ℕ → Bool
is_deleted_at q i = unwrap_or (option_map (λ (x : Stored). x.deleted) (stored_at q i)) false

-- the receive count of the message at a place
abbrev pub count_at : QueueState → ℕ → ℕ
count_at q i = unwrap_or (option_map (λ (x : Stored). x.count) (stored_at q i)) 0

-- the moment of a message's first receipt, if it was received
abbrev pub first_of : Option Stored → Option ℕ
first_of None = None
first_of (Some x) = x.first

abbrev pub first_at : QueueState → ℕ → Option ℕ
first_at q i = first_of (stored_at q i)

-- the moments at which the messages in flight become visible
abbrev pub shows : QueueState → ℕ → List ℕ
shows q m = map (λ (x : Stored). show_after q.visibility x.last) (filter (is_in_flight q.visibility m) q.messages)

abbrev pub least_with : ℕ → Option ℕ → ℕ
least_with n None = n
least_with n (Some k) = min n k

abbrev pub least : List ℕ → Option ℕ
least [] = None
least (n ∷ ns) = Some (least_with n (least ns))

-- the next moment at which a message becomes visible: the least of them
abbrev pub next_show : QueueState → ℕ → Option ℕ
next_show q m = least (shows q m)
