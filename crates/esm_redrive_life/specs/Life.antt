-- The life of a queue under redrives: its redrives, however each ended or was stopped, and what was written in place of
-- its journal's content between them, by a compaction or by an ordinary run. A life has its latest stage first. This
-- product's own.
use Rattle.std.specs.Prelude.{◌≡◌, ◌⊎◌, ◌<◌, ℕ, Bool, true, IsTrue, List, [], ◌∷◌, ◌++◌, Some, None, reverse}
use Rattle.std.specs.List.{All}
use Rattle.esm_model.specs.declared.entry.Entry.{Entry}
use Rattle.esm_model.specs.declared.entry.Fate.TheVariants.{Exhausted}
use Rattle.esm_model.specs.declared.item.Message.{Message}
use Rattle.esm_model.specs.Books.{lines_of}
use Rattle.esm_model.specs.Entries.{holds}
use Rattle.esm_model.specs.Fates.{given}
use Rattle.esm_journal_state.specs.declared.kept.KeptFate.{KeptFate}
use Rattle.esm_journal_state.specs.Meaning.{are_good}
use Rattle.esm_queue_model.specs.QueueEntries.{queue_count}
use Rattle.esm_queue_model.specs.QueueSetting.{is_fifo, message_at}
use Rattle.esm_redrive.specs.DeadFile.{dead_ids}
use Rattle.esm_redrive.specs.ReadsBack.{HasLetter}
use Rattle.esm_redrive_model.specs.Due.{moved_places, receives}
use Rattle.esm_redrive_model.specs.RedriveLaws.{HaveDifferentIds, is_redrive_fate}
use Rattle.esm_redrive_model.specs.RedriveSetting.{RedriveSetting, stands_among}
use Rattle.esm_redrive_model.specs.RedriveStep.{LegalRedrive, SettledRedrive}
use Rattle.esm_redrive_life.specs.Content.{HasValidMessages, IsOpenedOver, content_after, deletion_in}

-- a redrive: what happened in it, which part of that its journal kept, and of which part the dead-letter file has the
-- lines
pub record Redrive : Type 0 where
  pub setting : RedriveSetting
  pub happened : List Entry
  pub recorded : List Entry
  pub lined : List Entry

-- a redrive, or a list of payloads that was written in place of the content, oldest first
pub data Stage : Type 0 where
  Redriven : Redrive → Stage
  Rewritten : List (List ℕ) → Stage

-- the journal's content after the stages; at the beginning it is empty
abbrev pub content : List Stage → List (List ℕ)
content [] = []
content (Redriven r ∷ stages) = content_after r.setting.queue r.recorded (content stages)
content (Rewritten list ∷ stages) = list

-- the lines of the dead-letter file after the stages; at the beginning it is empty, and only redrives write it
abbrev pub dead_lines : List Stage → List (List ℕ)
dead_lines [] = []
dead_lines (Redriven r ∷ stages) = dead_lines stages ++ lines_of r.lined
dead_lines (Rewritten list ∷ stages) = dead_lines stages

-- the ids of the messages of these lines; in a FIFO queue a message has a group
abbrev pub lined_ids : Bool → List Stage → List (List ℕ)
lined_ids fifo life = dead_ids fifo (dead_lines life)

-- what a redrive may leave

-- an entry was in hand when a file failed: it follows a prefix of what happened
pub record HasHand (happened kept : List Entry) : Type 0 where
  pub hand : Entry
  pub before : List Entry
  pub later : List Entry
  pub kept_is : kept ≡ hand ∷ before
  pub happened_is : happened ≡ later ++ before

-- a file kept a prefix of what happened, or a prefix and then the entry in hand
abbrev pub IsKept : (happened kept : List Entry) → Type 0
IsKept happened kept = ((lost : List Entry) × (happened ≡ lost ++ kept)) ⊎ HasHand happened kept

-- The redrive of the queue found this content and these lines; what happened in it is legal, and so is what each file
-- kept. If the journal has the deletion of a moved message, the dead-letter file has its line.
pub record IsRedriveOver (fifo : Bool) (r : Redrive) (old lines : List (List ℕ)) : Type 0 where
  pub kind : is_fifo r.setting.queue.config.kind ≡ fifo
  pub opened : IsOpenedOver r.setting.queue old
  pub ids : r.setting.dead_ids ≡ dead_ids fifo lines
  pub messages : HasValidMessages r.setting.queue
  pub letters : All (HasLetter fifo) r.setting.queue.messages
  pub different : HaveDifferentIds r.setting.queue.messages
  pub legal : LegalRedrive r.setting r.happened
  pub legal_recorded : LegalRedrive r.setting r.recorded
  pub legal_lined : LegalRedrive r.setting r.lined
  pub recorded : IsKept r.happened r.recorded
  pub lined : IsKept r.happened r.lined
  pub line_first : (i : ℕ) → IsTrue (holds (moved_places r.recorded) i) → IsTrue (holds (moved_places r.lined) i)

-- the list says what the content said, and perhaps further deletions, none of a moved message; its payloads are good
pub record GoesOn (list old : List (List ℕ)) : Type 0 where
  pub kept : (i : ℕ) (k : KeptFate) → deletion_in old i ≡ Some k → deletion_in list i ≡ Some k
  pub others : (i : ℕ) (k : KeptFate) → deletion_in old i ≡ None → deletion_in list i ≡ Some k → (is_redrive_fate k.fate ≡ true) × (k.fate ≡ Exhausted → ⊥)
  pub good : are_good (reverse list) ≡ true

-- each redrive found what the stages before it left
abbrev pub IsLife : Bool → List Stage → Type 0
IsLife fifo [] = Unit {0}
IsLife fifo (Redriven r ∷ stages) = IsLife fifo stages × IsRedriveOver fifo r (content stages) (dead_lines stages)
IsLife fifo (Rewritten list ∷ stages) = IsLife fifo stages × GoesOn list (content stages)

-- laws

-- a deletion that the content says remains, with its fate
abbrev pub DeletionStays : (later before : List Stage) → Type 0
DeletionStays later before = (i : ℕ) (k : KeptFate) → deletion_in (content before) i ≡ Some k → deletion_in (content (later ++ before)) i ≡ Some k

-- a message waits, or is one of succeeded, filtered and moved
abbrev pub EachHasOneEnd : List Stage → Type 0
EachHasOneEnd life = (i : ℕ) (k : KeptFate) → deletion_in (content life) i ≡ Some k → is_redrive_fate k.fate ≡ true

-- the dead-letter file has the line of each moved message
abbrev pub MovesAreLined : Bool → List Stage → Type 0
MovesAreLined fifo life = (i : ℕ) (k : KeptFate) → deletion_in (content life) i ≡ Some k → k.fate ≡ Exhausted → stands_among (lined_ids fifo life) k.text ≡ true

-- a message whose line a redrive added was received in that redrive as often as it may be
abbrev pub LinedAfterReceives : Redrive → Type 0
LinedAfterReceives r = (i : ℕ) → IsTrue (holds (moved_places r.lined) i) → receives r.happened i ≡ r.setting.max_receives

-- a message that a redrive recorded as moved was received in it as often as it may be, or its line was there before
abbrev pub MovedAfterReceives : Bool → Redrive → List Stage → Type 0
MovedAfterReceives fifo r before =
    (i : ℕ) (m : Message) → given r.recorded 0 i ≡ Some Exhausted → message_at r.setting.queue i ≡ Some m
    → (receives r.happened i ≡ r.setting.max_receives) ⊎ (stands_among (lined_ids fifo before) m.id ≡ true)

-- the redrive ended and no file failed: both have what happened, and nothing more was required
pub record IsWhole (r : Redrive) : Type 0 where
  pub recorded : r.recorded ≡ r.happened
  pub lined : r.lined ≡ r.happened
  pub settled : SettledRedrive r.setting r.happened

-- the content says that the message at the place is moved
abbrev pub IsMoved : List Stage → ℕ → Type 0
IsMoved life i = (k : KeptFate) × (deletion_in (content life) i ≡ Some k) × (k.fate ≡ Exhausted)

-- the content before the redrive does not say that the message at the place was deleted for another reason than a move
abbrev pub NotDeletedOtherwise : List Stage → ℕ → Type 0
NotDeletedOtherwise before i = (k : KeptFate) → deletion_in (content before) i ≡ Some k → k.fate ≡ Exhausted

-- after the redrive a message that arrived is moved if and only if the file has its line and it was not found deleted for
-- another reason
pub record IsMovedByLine (fifo : Bool) (r : Redrive) (before : List Stage) (i : ℕ) (m : Message) : Type 0 where
  pub lined : IsMoved (Redriven r ∷ before) i → stands_among (lined_ids fifo (Redriven r ∷ before)) m.id ≡ true
  pub not_otherwise : IsMoved (Redriven r ∷ before) i → NotDeletedOtherwise before i
  pub moved : stands_among (lined_ids fifo (Redriven r ∷ before)) m.id ≡ true → NotDeletedOtherwise before i → IsMoved (Redriven r ∷ before) i

abbrev pub MovedWhereLined : Bool → Redrive → List Stage → Type 0
MovedWhereLined fifo r before = (i : ℕ) (m : Message) → i < queue_count r.happened → message_at r.setting.queue i ≡ Some m → IsMovedByLine fifo r before i m
