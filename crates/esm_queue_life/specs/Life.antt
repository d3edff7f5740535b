-- The life of a queue's mapping: its runs and its redrives, however each stopped, and what was written in place of its
-- journal's content between them. The last stage is first. This product's own.
use Rattle.std.specs.Prelude.{◌≡◌, ◌⊎◌, ◌+◌, ◌<◌, ◌≤◌, ℕ, Bool, true, IsTrue, IsSome, List, [], ◌∷◌, ◌++◌, Option, Some, None, is_some, option_map, reverse, if◌then◌else◌}
use Rattle.std.specs.List.{list_all}
use Rattle.esm_book.specs.Hand.{is_end}
use Rattle.esm_model.specs.declared.entry.Entry.{Entry}
use Rattle.esm_model.specs.declared.entry.Entry.TheVariants.{Began, Gave}
use Rattle.esm_model.specs.declared.entry.Fate.{Fate}
use Rattle.esm_model.specs.declared.entry.Fate.TheVariants.{Succeeded, Filtered, Exhausted}
use Rattle.esm_model.specs.declared.entry.WindowState.{WindowState}
use Rattle.esm_model.specs.declared.item.Message.{Message}
use Rattle.esm_model.specs.declared.lane.LaneId.{LaneId}
use Rattle.esm_model.specs.declared.setup.FoundDeletion.{FoundDeletion}
use Rattle.esm_model.specs.Books.{lines_of}
use Rattle.esm_model.specs.Entries.{holds}
use Rattle.esm_model.specs.Fates.{given}
use Rattle.esm_journal_record.specs.declared.said.Said.{Said}
use Rattle.esm_journal_record.specs.declared.said.Said.TheVariants.{Deleted}
use Rattle.esm_journal_state.specs.declared.kept.KeptFate.{KeptFate}
use Rattle.esm_journal_state.specs.Compact.{SameSaid}
use Rattle.esm_journal_state.specs.Meaning.{are_good, history, text_named}
use Rattle.esm_queue_model.specs.Queue.{is_group}
use Rattle.esm_queue_model.specs.QueueEntries.{deletion_fate, queue_count}
use Rattle.esm_queue_model.specs.QueueSetting.{QueueSetting, found_deletion, is_fifo, message_at}
use Rattle.esm_queue_model.specs.QueueStep.{LegalQueue}
use Rattle.esm_redrive.specs.DeadFile.{dead_ids}
use Rattle.esm_redrive_model.specs.Due.{receives}
use Rattle.esm_redrive_model.specs.RedriveSetting.{stands_among}
use Rattle.esm_redrive_life.specs.Content.{HasValidMessages, IsOpenedOver, content_after, deletion_in}
use Rattle.esm_redrive_life.specs.Life.{IsRedriveOver, Redrive}
use Rattle.esm_queue_life.specs.History.{IsAnswered, IsEarned, IsRefused}

-- a run: what happened in it, and what of that its journal kept
pub record Run : Type 0 where
  pub setting : QueueSetting
  pub happened : List Entry
  pub recorded : List Entry

-- a run, a redrive, or a list of payloads that was written in place of the content, the oldest first
pub data Stage : Type 0 where
  Ran : Run → Stage
  Redriven : Redrive → Stage
  Rewritten : List (List ℕ) → Stage

-- the journal's content after the stages; it begins empty
abbrev pub content : List Stage → List (List ℕ)
content [] = []
content (Ran r ∷ stages) = content_after r.setting r.recorded (content stages)
content (Redriven r ∷ stages) = content_after r.setting.queue r.recorded (content stages)
content (Rewritten list ∷ stages) = list

-- the lines of the dead-letter file after the stages; it begins empty, and only redrives write it
abbrev pub dead_lines : List Stage → List (List ℕ)
dead_lines [] = []
dead_lines (Ran r ∷ stages) = dead_lines stages
dead_lines (Redriven r ∷ stages) = dead_lines stages ++ lines_of r.lined
dead_lines (Rewritten list ∷ stages) = dead_lines stages

-- what a run may leave

-- an entry was in hand when a disk failed: it may follow a prefix of what happened that only ends of calls and of the input
-- follow
pub record HasHand (happened recorded : List Entry) : Type 0 where
  pub hand : Entry
  pub before : List Entry
  pub later : List Entry
  pub recorded_is : recorded ≡ hand ∷ before
  pub happened_is : happened ≡ later ++ before
  pub ends : list_all is_end later ≡ true

-- the journal kept a prefix of what happened, or that and the entry in hand
abbrev pub IsRecorded : (happened recorded : List Entry) → Type 0
IsRecorded happened recorded = ((lost : List Entry) × (happened ≡ lost ++ recorded)) ⊎ HasHand happened recorded

-- the run of the queue found this content, what happened in it is legal, and so is what its journal kept
pub record IsRunOver (fifo : Bool) (r : Run) (old : List (List ℕ)) : Type 0 where
  pub kind : is_fifo r.setting.config.kind ≡ fifo
  pub opened : IsOpenedOver r.setting old
  pub messages : HasValidMessages r.setting
  pub legal : LegalQueue r.setting r.happened
  pub legal_recorded : LegalQueue r.setting r.recorded
  pub kept : IsRecorded r.happened r.recorded

-- the list says what the content said, and its payloads are good
pub record SaysTheSame (list old : List (List ℕ)) : Type 0 where
  pub same : SameSaid (history (reverse list)) (history (reverse old))
  pub good : are_good (reverse list) ≡ true

-- each run and each redrive found what the stages before it left
abbrev pub IsLife : Bool → List Stage → Type 0
IsLife fifo [] = Unit {0}
IsLife fifo (Ran r ∷ stages) = IsLife fifo stages × IsRunOver fifo r (content stages)
IsLife fifo (Redriven r ∷ stages) = IsLife fifo stages × IsRedriveOver fifo r (content stages) (dead_lines stages)
IsLife fifo (Rewritten list ∷ stages) = IsLife fifo stages × SaysTheSame list (content stages)

-- what a run or a redrive was judged over, what happened in it, and what of that its journal kept
abbrev pub run_of : Stage → Option Run
run_of (Ran r) = Some r
run_of (Redriven r) = Some (record { setting = r.setting.queue; happened = r.happened; recorded = r.recorded })
run_of (Rewritten list) = None

-- rewritings, and neither run nor redrive
abbrev pub AreRewritten : List Stage → Type 0
AreRewritten [] = Unit {0}
AreRewritten (Ran r ∷ stages) = ⊥
AreRewritten (Redriven r ∷ stages) = ⊥
AreRewritten (Rewritten list ∷ stages) = AreRewritten stages

-- laws

-- a deletion that the content has stays in it, with its fate and the id of its message
abbrev pub DeletionStays : (later before : List Stage) → Type 0
DeletionStays later before = (i : ℕ) (k : KeptFate) → deletion_in (content before) i ≡ Some k → deletion_in (content (later ++ before)) i ≡ Some k

abbrev pub deletions_after : ℕ → ℕ → Said → ℕ
deletions_after i before (Deleted fate moment places texts) = (if is_some (text_named places texts i) then 1 else 0) + before
deletions_after i before _ = before

-- how many payloads of kind 3 name the message
abbrev pub deletions_naming : List Said → ℕ → ℕ
deletions_naming [] i = 0
deletions_naming (s ∷ h) i = deletions_after i (deletions_naming h i) s

-- at most one payload of the content says of a message that it was deleted
abbrev pub EachDeletedOnce : List Stage → Type 0
EachDeletedOnce life = (i : ℕ) → deletions_naming (history (reverse (content life))) i ≤ 1

-- The run deleted the message at the place with this fate, which was earned by what had happened in it before; and the
-- payload has the id of the message.
pub record IsGivenIn (r : Run) (i : ℕ) (k : KeptFate) : Type 0 where
  pub later : List Entry
  pub before : List Entry
  pub lost : List Entry
  pub by : Option LaneId
  pub places : List ℕ
  pub line : Option (List ℕ)
  pub state : Option WindowState
  pub moment : ℕ
  pub gave : r.recorded ≡ later ++ Gave by 0 places k.fate line state moment ∷ before
  pub named : IsTrue (holds places i)
  pub happened : r.happened ≡ lost ++ before
  pub earned : IsEarned r.setting before by i k.fate
  pub message : Message
  pub at : message_at r.setting i ≡ Some message
  pub id : message.id ≡ k.text

-- a deletion that is recorded after a run, and was not before it, was given in it
abbrev pub EachIsEarned : Run → List Stage → Type 0
EachIsEarned r before = (i : ℕ) (k : KeptFate) → deletion_in (content before) i ≡ None → deletion_in (content (Ran r ∷ before)) i ≡ Some k → IsGivenIn r i k

-- the rule of each fate in a redrive: a message was moved if it was received as often as it may be, or its line was in the
-- dead-letter file before; and it succeeded or was filtered as in a run
abbrev pub IsEarnedInRedrive : Bool → Redrive → List Stage → (h : List Entry) → Option LaneId → ℕ → Message → Fate → Type 0
IsEarnedInRedrive fifo r life h by i m Exhausted = (receives r.happened i ≡ r.setting.max_receives) ⊎ (stands_among (dead_ids fifo (dead_lines life)) m.id ≡ true)
IsEarnedInRedrive fifo r life h (Some lane) i m Succeeded = IsAnswered r.setting.queue h lane i
IsEarnedInRedrive fifo r life h None i m Filtered = IsRefused r.setting.queue i
IsEarnedInRedrive fifo r life h by i m fate = ⊥

-- the redrive deleted the message at the place with this fate, which was earned; and the payload has the id of the message
pub record IsGivenInRedrive (fifo : Bool) (r : Redrive) (life : List Stage) (i : ℕ) (k : KeptFate) : Type 0 where
  pub later : List Entry
  pub before : List Entry
  pub lost : List Entry
  pub by : Option LaneId
  pub places : List ℕ
  pub line : Option (List ℕ)
  pub state : Option WindowState
  pub moment : ℕ
  pub gave : r.recorded ≡ later ++ Gave by 0 places k.fate line state moment ∷ before
  pub named : IsTrue (holds places i)
  pub happened : r.happened ≡ lost ++ before
  pub message : Message
  pub at : message_at r.setting.queue i ≡ Some message
  pub id : message.id ≡ k.text
  pub earned : IsEarnedInRedrive fifo r life before by i message k.fate

-- so is each deletion that is recorded after a redrive, and was not before it
abbrev pub EachRedriveIsEarned : Bool → Redrive → List Stage → Type 0
EachRedriveIsEarned fifo r before =
    (i : ℕ) (k : KeptFate) → deletion_in (content before) i ≡ None → deletion_in (content (Redriven r ∷ before)) i ≡ Some k → IsGivenInRedrive fifo r before i k

-- a message that came in the run, and whose deletion was recorded when it began, has the id that was recorded
abbrev pub IdsAreKept : Run → List Stage → Type 0
IdsAreKept r before = (i : ℕ) (k : KeptFate) (m : Message) → i < queue_count r.happened → deletion_in (content before) i ≡ Some k → message_at r.setting i ≡ Some m → m.id ≡ k.text

-- no call of the run holds a message whose deletion was recorded when it began, or that it deleted before the call
abbrev pub NoneIsCalledAgain : Run → List Stage → Type 0
NoneIsCalledAgain r before =
    (later earlier : List Entry) (lane : LaneId) (places : List ℕ) (closing : Option ℕ) (m : ℕ) → r.happened ≡ later ++ Began lane places closing m ∷ earlier
    → (i : ℕ) → IsTrue (holds places i)
    → (deletion_in (content before) i ≡ None) × (given earlier 0 i ≡ None)

-- a call of the run holds a message of a group only if the deletion of each earlier one of the group was recorded when the
-- run began, or the run deleted it before the call, or it is in the batch too
abbrev pub GroupsInOrder : Run → List Stage → Type 0
GroupsInOrder r before =
    (later earlier : List Entry) (lane : LaneId) (places : List ℕ) (closing : Option ℕ) (m : ℕ) → r.happened ≡ later ++ Began lane places closing m ∷ earlier
    → (i j : ℕ) (x y : Message) → message_at r.setting i ≡ Some x → message_at r.setting j ≡ Some y → is_group y.group x.group ≡ true
    → IsTrue (holds places i) → j < i
    → IsTrue (holds places j) ⊎ (IsSome (deletion_in (content before) j) ⊎ IsSome (given earlier 0 j))

-- what the next run or redrive finds deleted is what this one had deleted, found or given, by what its journal kept
abbrev pub GoesOnFrom : (r next : Run) → Type 0
GoesOnFrom r next = (i : ℕ) → option_map (λ (f : FoundDeletion). f.fate) (found_deletion next.setting i) ≡ deletion_fate r.setting r.recorded i
