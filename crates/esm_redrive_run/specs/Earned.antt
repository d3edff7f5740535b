-- Why a message of a redrive is deleted, by its fate. Source: the Amazon SQS Developer Guide, "Using dead-letter queues";
-- that a line which is already in the dead-letter file counts is this product's own.
use Rattle.std.specs.Prelude.{◌≡◌, ◌⊎◌, ◌<◌, ◌≤◌, ℕ, true, List, Some}
use Rattle.esm_model.specs.declared.entry.Entry.{Entry}
use Rattle.esm_model.specs.declared.entry.Fate.{Fate}
use Rattle.esm_model.specs.declared.entry.Fate.TheVariants.{Succeeded, Filtered, Expired, Exhausted}
use Rattle.esm_model.specs.declared.item.Message.{Message}
use Rattle.esm_model.specs.declared.setup.FoundDeletion.{FoundDeletion}
use Rattle.esm_queue_model.specs.QueueEntries.{queue_count, is_deleted, deletion_fate}
use Rattle.esm_queue_model.specs.QueueSetting.{found_deletion, message_at}
use Rattle.esm_redrive_model.specs.Due.{receives}
use Rattle.esm_redrive_model.specs.RedriveSetting.{RedriveSetting, has_dead_id}
use Rattle.esm_runner.specs.Earned as queue

-- at opening the journal said that the message at the place was deleted with this fate
pub record WasFoundWith (s : RedriveSetting) (i : ℕ) (fate : Fate) : Type 0 where
  pub found : FoundDeletion
  pub deletion : found_deletion s.queue i ≡ Some found
  pub fate_is : found.fate ≡ fate

-- the id of the message at the place is in a line that was found in the dead-letter file
pub record HasLine (s : RedriveSetting) (i : ℕ) : Type 0 where
  pub message : Message
  pub at : message_at s.queue i ≡ Some message
  pub stands : has_dead_id s message ≡ true

-- the history earns the message this fate: a reply counts it as succeeded; it does not pass the filter; or, for a move,
-- its line was found or it was received as often as it may be
abbrev pub EarnsIt : RedriveSetting → List Entry → ℕ → Fate → Type 0
EarnsIt s h i Succeeded = queue.HasSucceeded s.queue h i
EarnsIt s h i Filtered = queue.FailsFilter s.queue i
EarnsIt s h i Exhausted = HasLine s i ⊎ (s.max_receives ≤ receives h i)
EarnsIt s h i Expired = ⊥

-- its fate is earned: it was found deleted with it, or the history earns it
abbrev pub IsEarnedAs : RedriveSetting → List Entry → ℕ → Fate → Type 0
IsEarnedAs s h i fate = WasFoundWith s i fate ⊎ EarnsIt s h i fate

-- a message has a fate only if that is earned
abbrev pub DeletedOnlyEarned : RedriveSetting → List Entry → Type 0
DeletedOnlyEarned s h = (i : ℕ) (fate : Fate) → deletion_fate s.queue h i ≡ Some fate → IsEarnedAs s h i fate

-- A message that arrived is deleted if a deletion is earned by the rules of any queue, or its line was found. One that
-- was received as often as it may be waits until it is due.
abbrev pub DeletedAllEarned : RedriveSetting → List Entry → Type 0
DeletedAllEarned s h = (i : ℕ) → i < queue_count h → queue.IsEarned s.queue h i ⊎ HasLine s i → is_deleted s.queue h i ≡ true
