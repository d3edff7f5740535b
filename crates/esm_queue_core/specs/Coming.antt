-- What a list of messages that comes adds, and when it is refused. Source: the Lambda Developer Guide, event filtering for
-- Amazon SQS (a message that does not pass is deleted).
use Rattle.std.specs.Prelude.{◌≡◌, ℕ, ◌+◌, ◌<◌, Bool, true, false, not, ◌&&◌, ◌==◌, List, [], ◌∷◌, length, find, slice_get, Option, Some, None, option_map, unwrap_or, if◌then◌else◌}
use Rattle.std.specs.Str.{bytes_eq}
use Rattle.esm_model.specs.declared.item.Message.{Message}
use Rattle.esm_model.specs.declared.lane.LaneId.{LaneId}
use Rattle.esm_model.specs.declared.book.Change.{Change}
use Rattle.esm_model.specs.declared.entry.Fate.{Fate}
use Rattle.esm_model.specs.declared.entry.Fate.TheVariants.{Filtered}
use Rattle.esm_model.specs.declared.entry.Entry.{Entry}
use Rattle.esm_model.specs.declared.entry.Entry.TheVariants.{Came, Gave}
use Rattle.esm_model.specs.declared.setup.FoundDeletion.{FoundDeletion}
use Rattle.esm_queue_model.specs.QueueSetting.{QueueSetting, is_found}
use Rattle.esm_queue_model.specs.QueueStep.{is_refused_message}
use Rattle.esm_queue_core.specs.CoreView.{CoreView, moment_for}

-- what is added

-- a deletion of the places, if there are any
abbrev pub gave_entries : Option LaneId → List ℕ → Fate → ℕ → List Entry
gave_entries by [] fate m = []
gave_entries by (i ∷ places) fate m = Gave by 0 (i ∷ places) fate None None m ∷ []

-- the message that comes at the place fails the filter and has no found deletion
abbrev pub is_refused_at : QueueSetting → ℕ → Message → Bool
is_refused_at s k x = not (is_found s k) && is_refused_message s x

-- the places of those that do, of the messages from place k on
abbrev pub refused_from : QueueSetting → ℕ → List Message → List ℕ
refused_from s k [] = []
refused_from s k (x ∷ xs) = if is_refused_at s k x then k ∷ refused_from s (k + 1) xs else refused_from s (k + 1) xs

-- the entries of a list from place k on
abbrev pub came_from : QueueSetting → ℕ → List Message → ℕ → List Entry
came_from s k [] m = []
came_from s k (x ∷ xs) m = Came 0 k (length (x ∷ xs)) m ∷ gave_entries None (refused_from s k (x ∷ xs)) Filtered m

abbrev pub came_entries : CoreView → List Message → ℕ → List Entry
came_entries v items moment = came_from v.setting (length v.setting.messages) items (moment_for v.past moment)

-- what is refused

-- the deletion that was found of a place
abbrev pub deletion_at : List FoundDeletion → ℕ → Option FoundDeletion
deletion_at deletions i = find (λ (f : FoundDeletion). f.place == i) deletions

-- the message that comes at the place was found deleted with another id
abbrev pub has_changed : List FoundDeletion → ℕ → Message → Bool
has_changed deletions i message = unwrap_or (option_map (λ (f : FoundDeletion). not (bytes_eq f.text message.id)) (deletion_at deletions i)) false

-- none of the first n messages of the list, from place k on, was
abbrev pub NoneHasChanged : List FoundDeletion → ℕ → List Message → ℕ → Type 0
NoneHasChanged deletions k items n = (j : ℕ) (message : Message) → j < n → slice_get items j ≡ Some message → has_changed deletions (k + j) message ≡ false

-- the message at the position is the first that was
pub record HasChangedFirst (deletions : List FoundDeletion) (k : ℕ) (items : List Message) (j : ℕ) : Type 0 where
  pub message : Message
  pub at : slice_get items j ≡ Some message
  pub changed : has_changed deletions (k + j) message ≡ true
  pub before : NoneHasChanged deletions k items j

-- what differs at the place: the id that was kept, and the one that is given
pub record IsChangeOf (deletions : List FoundDeletion) (place : ℕ) (message : Message) (change : Change) : Type 0 where
  pub found : FoundDeletion
  pub deletion : deletion_at deletions place ≡ Some found
  pub differs : message.id ≡ found.text → ⊥
  pub queue : change.shard ≡ 0
  pub place_is : change.place ≡ place
  pub kept : change.kept ≡ found.text
  pub given : change.given ≡ message.id

-- the change of the first message of a list that has changed
pub record IsFirstChange (v : CoreView) (items : List Message) (change : Change) : Type 0 where
  pub position : ℕ
  pub message : Message
  pub at : slice_get items position ≡ Some message
  pub change_is : IsChangeOf v.setting.deletions (length v.setting.messages + position) message change
  pub before : NoneHasChanged v.setting.deletions (length v.setting.messages) items position
