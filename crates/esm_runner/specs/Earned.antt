-- Why a message of a queue is deleted. Source: the Lambda Developer Guide, "Using Lambda with Amazon SQS" (a message is
-- deleted once its batch, or in a partial batch response the message, succeeded, and if it does not pass the filter).
use Rattle.std.specs.Prelude.{◌≡◌, ◌⊎◌, ◌<◌, ◌∷◌, ◌++◌, ℕ, true, false, List, Some}
use Rattle.esm_model.specs.declared.entry.Entry.{Entry}
use Rattle.esm_model.specs.declared.entry.Entry.TheVariants.{Ended}
use Rattle.esm_model.specs.declared.entry.Reply.{Reply}
use Rattle.esm_model.specs.declared.item.Message.{Message}
use Rattle.esm_model.specs.declared.lane.LaneId.{LaneId}
use Rattle.esm_model.specs.Entries.{holds}
use Rattle.esm_model.specs.Filter.{passes_message}
use Rattle.esm_queue_model.specs.QueueSetting.{QueueSetting, message_at, is_found}
use Rattle.esm_queue_model.specs.QueueEntries.{queue_count, is_deleted}
use Rattle.esm_queue_model.specs.QueueStep.{succeeded_in}

-- a reply of the history counts the message at the place as succeeded
pub record HasSucceeded (s : QueueSetting) (h : List Entry) (i : ℕ) : Type 0 where
  pub later : List Entry
  pub before : List Entry
  pub lane : LaneId
  pub reply : Reply
  pub moment : ℕ
  pub split : h ≡ later ++ Ended lane reply moment ∷ before
  pub counted : holds (succeeded_in s before lane reply) i ≡ true

-- the message at the place does not pass the filter
pub record FailsFilter (s : QueueSetting) (i : ℕ) : Type 0 where
  pub message : Message
  pub at : message_at s i ≡ Some message
  pub fails : passes_message s.config.filters message ≡ false

-- its deletion is earned: it was found deleted, a reply counts it as succeeded, or it does not pass the filter
abbrev pub IsEarned : QueueSetting → List Entry → ℕ → Type 0
IsEarned s h i = (is_found s i ≡ true) ⊎ (HasSucceeded s h i ⊎ FailsFilter s i)

-- a message that arrived is deleted only if its deletion is earned
abbrev pub DeletedOnlyEarned : QueueSetting → List Entry → Type 0
DeletedOnlyEarned s h = (i : ℕ) → i < queue_count h → is_deleted s h i ≡ true → IsEarned s h i

-- and it is deleted if its deletion is earned
abbrev pub DeletedAllEarned : QueueSetting → List Entry → Type 0
DeletedAllEarned s h = (i : ℕ) → i < queue_count h → IsEarned s h i → is_deleted s h i ≡ true
