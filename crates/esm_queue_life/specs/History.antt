-- What one legal history of a queue says of its calls and of its deletions. A history is written newest entry first. Source:
-- the Lambda Developer Guide, "Using Lambda with Amazon SQS" (a message is deleted once its batch, or in a partial batch
-- response the message, succeeded, and if it does not pass the filter).
use Rattle.std.specs.Prelude.{◌≡◌, ◌∷◌, ◌++◌, ℕ, false, IsTrue, List, Option, Some, None}
use Rattle.esm_model.specs.declared.entry.Entry.{Entry}
use Rattle.esm_model.specs.declared.entry.Entry.TheVariants.{Began, Ended, Gave}
use Rattle.esm_model.specs.declared.entry.Fate.{Fate}
use Rattle.esm_model.specs.declared.entry.Fate.TheVariants.{Succeeded, Filtered}
use Rattle.esm_model.specs.declared.entry.Reply.{Reply}
use Rattle.esm_model.specs.declared.entry.WindowState.{WindowState}
use Rattle.esm_model.specs.declared.item.Message.{Message}
use Rattle.esm_model.specs.declared.lane.LaneId.{LaneId}
use Rattle.esm_model.specs.Entries.{holds}
use Rattle.esm_model.specs.Filter.{passes_message}
use Rattle.esm_queue_model.specs.QueueEntries.{is_deleted}
use Rattle.esm_queue_model.specs.QueueSetting.{QueueSetting, message_at}
use Rattle.esm_queue_model.specs.QueueStep.{succeeded_in}

-- no call holds a message that is deleted when it begins
abbrev pub NoDeletedCalled : QueueSetting → List Entry → Type 0
NoDeletedCalled s h =
    (later before : List Entry) (lane : LaneId) (places : List ℕ) (closing : Option ℕ) (m : ℕ) → h ≡ later ++ Began lane places closing m ∷ before
    → (i : ℕ) → IsTrue (holds places i) → is_deleted s before i ≡ false

-- the reply to a call of the lane counts the message as succeeded
pub record IsAnswered (s : QueueSetting) (h : List Entry) (lane : LaneId) (i : ℕ) : Type 0 where
  pub later : List Entry
  pub before : List Entry
  pub reply : Reply
  pub moment : ℕ
  pub ended : h ≡ later ++ Ended lane reply moment ∷ before
  pub counted : IsTrue (holds (succeeded_in s before lane reply) i)

-- the message does not pass the filter
pub record IsRefused (s : QueueSetting) (i : ℕ) : Type 0 where
  pub message : Message
  pub at : message_at s i ≡ Some message
  pub fails : passes_message s.config.filters message ≡ false

-- the rule of each fate: a message succeeded if the lane that deletes it had such a reply, and it was filtered if it does
-- not pass; a run gives no other fate
abbrev pub IsEarned : QueueSetting → List Entry → Option LaneId → ℕ → Fate → Type 0
IsEarned s h (Some lane) i Succeeded = IsAnswered s h lane i
IsEarned s h None i Filtered = IsRefused s i
IsEarned s h by i fate = ⊥

-- each deletion is earned by the history before it
abbrev pub EachGiftIsEarned : QueueSetting → List Entry → Type 0
EachGiftIsEarned s h =
    (later before : List Entry) (by : Option LaneId) (shard : ℕ) (places : List ℕ) (f : Fate) (line : Option (List ℕ)) (state : Option WindowState) (m : ℕ) → h ≡ later ++ Gave by shard places f line state m ∷ before
    → (i : ℕ) → IsTrue (holds places i) → IsEarned s before by i f
