-- The laws that hold of every legal history of a redrive, which has its newest entry first.
use Rattle.std.specs.Prelude.{◌≡◌, ℕ, ◌+◌, ◌*◌, ◌<◌, ◌≤◌, Bool, true, false, IsTrue, List, ◌∷◌, ◌++◌, length, map, Option, Some, is_some, slice_get}
use Rattle.esm_model.specs.declared.item.Message.{Message}
use Rattle.esm_model.specs.declared.lane.LaneId.{LaneId}
use Rattle.esm_model.specs.declared.entry.Fate.{Fate}
use Rattle.esm_model.specs.declared.entry.Fate.TheVariants.{Succeeded, Filtered, Expired, Exhausted}
use Rattle.esm_model.specs.declared.entry.WindowState.{WindowState}
use Rattle.esm_model.specs.declared.entry.Entry.{Entry}
use Rattle.esm_model.specs.declared.entry.Entry.TheVariants.{Gave}
use Rattle.esm_model.specs.declared.setup.FoundDeletion.{FoundDeletion}
use Rattle.esm_model.specs.Entries.{holds, calls_begun}
use Rattle.esm_model.specs.Books.{lines_of}
use Rattle.esm_queue_model.specs.Queue.{count_at}
use Rattle.esm_queue_model.specs.QueueSetting.{found_deletion}
use Rattle.esm_queue_model.specs.QueueEntries.{queue_of, queue_count, is_deleted, waiting, deletion_fate, deleted_with}
use Rattle.esm_redrive_model.specs.RedriveSetting.{RedriveSetting, stands_among, with_dead_ids}
use Rattle.esm_redrive_model.specs.DeadLetter.{dead_letter}
use Rattle.esm_redrive_model.specs.Due.{receives, known, moved_messages, moved_ids}
use Rattle.esm_redrive_model.specs.RedriveStep.{LegalRedrive}

-- what becomes of a message

-- the message succeeded, or was filtered, or was moved
abbrev pub is_redrive_fate : Fate → Bool
is_redrive_fate Succeeded = true
is_redrive_fate Filtered = true
is_redrive_fate Exhausted = true
is_redrive_fate Expired = false

-- each deletion found in the journal at opening has one of these fates
abbrev pub FoundForThese : RedriveSetting → Type 0
FoundForThese s = (i : ℕ) (f : FoundDeletion) → found_deletion s.queue i ≡ Some f → is_redrive_fate f.fate ≡ true

-- the message waits if and only if it has no fate, and its only fate is one of these
pub record HasOneEnd (s : RedriveSetting) (h : List Entry) (i : ℕ) : Type 0 where
  pub deleted : is_deleted s.queue h i ≡ is_some (deletion_fate s.queue h i)
  pub ends : (f : Fate) → deletion_fate s.queue h i ≡ Some f → is_redrive_fate f ≡ true

-- each message that arrived is exactly one of waiting, succeeded, filtered and moved
pub record EachHasOneEnd (s : RedriveSetting) (h : List Entry) : Type 0 where
  pub each : (i : ℕ) → i < queue_count h → HasOneEnd s h i
  pub counted : queue_count h ≡ length (waiting s.queue h) + deleted_with s.queue h Succeeded + deleted_with s.queue h Filtered + deleted_with s.queue h Exhausted

-- lines

-- no id occurs at two positions
abbrev pub EachOnce : List (List ℕ) → Type 0
EachOnce ids = (i j : ℕ) (id : List ℕ) → slice_get ids i ≡ Some id → slice_get ids j ≡ Some id → i ≡ j

-- the messages have different ids
abbrev pub HaveDifferentIds : List Message → Type 0
HaveDifferentIds messages = EachOnce (map (λ (m : Message). m.id) messages)

-- the lines that the history adds are those of the messages that it moves, in order; if messages have different ids, an id
-- is in at most one of these lines, and it is in none if it was in the dead-letter file before
pub record MovedOnce (s : RedriveSetting) (h : List Entry) : Type 0 where
  pub lines : lines_of h ≡ map dead_letter (moved_messages s h)
  pub once : HaveDifferentIds s.queue.messages → EachOnce (moved_ids s h)
  pub fresh : (id : List ℕ) → stands_among (moved_ids s h) id ≡ true → stands_among s.dead_ids id ≡ false

-- receives

-- a batcher moves a message only after it was received as often as it may be
abbrev pub MovedAfterReceives : RedriveSetting → List Entry → Type 0
MovedAfterReceives s h =
    (later before : List Entry) (lane : LaneId) (shard : ℕ) (places : List ℕ) (line : Option (List ℕ)) (state : Option WindowState) (m : ℕ) → h ≡ later ++ Gave (Some lane) shard places Exhausted line state m ∷ before
    → (i : ℕ) → IsTrue (holds places i) → s.max_receives ≤ receives before i

-- no message is received more often
abbrev pub ReceivedAtMost : RedriveSetting → List Entry → Type 0
ReceivedAtMost s h = (i : ℕ) → receives h i ≤ s.max_receives

-- no more calls began than the arrived messages may be received, all together
abbrev pub CallsAreFew : RedriveSetting → List Entry → Type 0
CallsAreFew s h = calls_begun h ≤ queue_count h * s.max_receives

-- the queue's receive count of each message is the number of its receives
abbrev pub ReceivesAreCounted : RedriveSetting → List Entry → Type 0
ReceivesAreCounted s h = (i : ℕ) → count_at (queue_of s.queue h) i ≡ receives h i

-- dead letters that were found

-- with the other ids the same messages are known, and the history stays legal
pub record IsSameOver (s : RedriveSetting) (ids : List (List ℕ)) (h : List Entry) : Type 0 where
  pub same_known : known (with_dead_ids s ids) h ≡ known s h
  pub legal : LegalRedrive s h → LegalRedrive (with_dead_ids s ids) h
