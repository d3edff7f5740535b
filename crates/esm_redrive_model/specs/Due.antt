-- Which messages a redrive moves, and which it only records as moved. Source: the Amazon SQS Developer Guide, "Using
-- dead-letter queues". That only receives of this history count, and that a line found in the dead-letter file already
-- counts as a move, is this product's own.
use Rattle.std.specs.Prelude.{ℕ, suc, nat_le, Bool, false, not, ◌&&◌, List, [], ◌∷◌, ◌++◌, filter, filter_map, Some, option_map, unwrap_or, if◌then◌else◌}
use Rattle.esm_model.specs.declared.item.Message.{Message}
use Rattle.esm_model.specs.declared.entry.Entry.{Entry}
use Rattle.esm_model.specs.declared.entry.Entry.TheVariants.{Began, Gave}
use Rattle.esm_model.specs.Entries.{holds}
use Rattle.esm_model.specs.Fates.{below}
use Rattle.esm_queue_model.specs.QueueSetting.{message_at, ids_at}
use Rattle.esm_queue_model.specs.QueueEntries.{queue_count, is_deleted}
use Rattle.esm_queue_model.specs.QueueBatch.{eligible_after}
use Rattle.esm_redrive_model.specs.RedriveSetting.{RedriveSetting, has_dead_id}

-- due messages

abbrev pub received_after : ℕ → ℕ → Entry → ℕ
received_after i before (Began lane places closing moment) = if holds places i then suc before else before
received_after i before _ = before

-- how often the message at the place was received: the number of `Began` entries that hold it
abbrev pub receives : List Entry → ℕ → ℕ
receives [] i = 0
receives (e ∷ h) i = received_after i (receives h i) e

-- the message was received as often as it may be
abbrev pub is_at_limit : RedriveSetting → List Entry → ℕ → Bool
is_at_limit s h i = nat_le s.max_receives (receives h i)

-- the places, in order, of the messages that are due: eligible at the moment, and received as often as they may be
abbrev pub due : RedriveSetting → List Entry → ℕ → List ℕ
due s h m = filter (is_at_limit s h) (eligible_after s.queue h m)

-- messages that are known to be moved

-- the message at the place is not deleted, and its id is in a line that was found in the dead-letter file
abbrev pub is_known : RedriveSetting → List Entry → ℕ → Bool
is_known s h i = not (is_deleted s.queue h i) && unwrap_or (option_map (has_dead_id s) (message_at s.queue i)) false

-- the places of such messages that arrived
abbrev pub known : RedriveSetting → List Entry → List ℕ
known s h = filter (is_known s h) (below (queue_count h))

-- messages that were moved

abbrev pub lined_places : Entry → List ℕ
lined_places (Gave by shard places fate (Some line) state moment) = places
lined_places _ = []

-- the places of the entries with a line, oldest first
abbrev pub moved_places : List Entry → List ℕ
moved_places [] = []
moved_places (e ∷ h) = moved_places h ++ lined_places e

-- the messages at these places, and their ids
abbrev pub moved_messages : RedriveSetting → List Entry → List Message
moved_messages s h = filter_map (message_at s.queue) (moved_places h)

abbrev pub moved_ids : RedriveSetting → List Entry → List (List ℕ)
moved_ids s h = ids_at s.queue (moved_places h)
