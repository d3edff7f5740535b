-- What each call of a redrive's core adds. Sources: the Amazon SQS Developer Guide, "Using dead-letter queues"; the
-- Lambda Developer Guide, "Using Lambda with Amazon SQS".
use Rattle.std.specs.Prelude.{ℕ, List, [], ◌∷◌, ◌++◌, length, Some, None, option_map}
use Rattle.esm_model.specs.declared.item.Message.{Message}
use Rattle.esm_model.specs.declared.entry.Fate.TheVariants.{Succeeded, Filtered, Exhausted}
use Rattle.esm_model.specs.declared.entry.Reply.{Reply}
use Rattle.esm_model.specs.declared.entry.Entry.{Entry}
use Rattle.esm_model.specs.declared.entry.Entry.TheVariants.{Came, Ended, Gave}
use Rattle.esm_model.specs.declared.book.Next.{Next}
use Rattle.esm_model.specs.declared.book.Next.TheVariants as next
use Rattle.esm_queue_model.specs.QueueSetting.{message_at}
use Rattle.esm_queue_model.specs.QueueEntries.{queue_lane, queue_of}
use Rattle.esm_queue_core.specs.Coming.{gave_entries}
use Rattle.esm_queue_core.specs.CoreView.{moment_for}
use Rattle.esm_queue_core.specs.Next.{next_for, next_entries}
use Rattle.esm_redrive_model.specs.RedriveSetting.{RedriveSetting}
use Rattle.esm_redrive_model.specs.DeadLetter.{dead_letter}
use Rattle.esm_redrive.specs.Limited.{due_in}
use Rattle.esm_redrive_core.specs.Coming.{known_from, dropped_from}
use Rattle.esm_redrive_core.specs.Sound.{ended_places}
use Rattle.esm_redrive_core.specs.RedriveView.{RedriveView}

-- messages arrive

-- the entries of a list from place k on: messages whose line was found are recorded as moved, and those of the others
-- that fail the filter are deleted
abbrev pub came_from : RedriveSetting → ℕ → List Message → ℕ → List Entry
came_from s k [] m = []
came_from s k (x ∷ xs) m = Came 0 k (length (x ∷ xs)) m ∷ (gave_entries None (known_from s k (x ∷ xs)) Exhausted m ++ gave_entries None (dropped_from s k (x ∷ xs)) Filtered m)

abbrev pub came_entries : RedriveView → List Message → ℕ → List Entry
came_entries v items moment = came_from v.setting (length v.setting.queue.messages) items (moment_for v.past moment)

-- what the batcher does next

-- the first message that is due is moved, if there is one
abbrev pub next_due : List ℕ → Next → Next
next_due [] answer = answer
next_due (i ∷ places) answer = next.Gave 1

-- a message that is due is moved before any rule of a queue is applied
abbrev pub redrive_next : RedriveSetting → List Entry → ℕ → Next
redrive_next s h m = next_due (due_in s.max_receives (queue_of s.queue h) m) (next_for s.queue h 0 m)

-- the message at the place is moved, with its line
abbrev pub moved_entry : RedriveSetting → ℕ → ℕ → Entry
moved_entry s i m = Gave (Some (queue_lane 0)) 0 (i ∷ []) Exhausted (option_map dead_letter (message_at s.queue i)) None m

abbrev pub entries_due : RedriveSetting → ℕ → List ℕ → List Entry → List Entry
entries_due s m [] entries = entries
entries_due s m (i ∷ places) entries = moved_entry s i m ∷ []

-- the entry that this adds
abbrev pub redrive_next_entries : RedriveSetting → List Entry → ℕ → List Entry
redrive_next_entries s h m = entries_due s m (due_in s.max_receives (queue_of s.queue h) m) (next_entries (next_for s.queue h 0 m) m)

-- the call ends

-- the end, and then the deletion of the messages that succeeded, if there are any
abbrev pub ended_entries : RedriveSetting → List Entry → Reply → ℕ → List Entry
ended_entries s h reply m = Ended (queue_lane 0) reply m ∷ gave_entries (Some (queue_lane 0)) (ended_places s h reply m) Succeeded m
