-- The life of a queue's mapping as one of redrives, and what holds of its dead letters. This product's own.
use Rattle.std.specs.Prelude.{◌≡◌, ℕ, Bool, true, List, [], ◌∷◌, length, Some}
use Rattle.esm_journal_state.specs.declared.kept.KeptFate.{KeptFate}
use Rattle.esm_model.specs.declared.entry.Fate.TheVariants.{Exhausted}
use Rattle.esm_redrive.specs.DeadFile.{AreLetters, dead_ids}
use Rattle.esm_redrive_model.specs.RedriveLaws.{EachOnce, is_redrive_fate}
use Rattle.esm_redrive_model.specs.RedriveSetting.{stands_among}
use Rattle.esm_redrive_life.specs.Content.{content_after, deletion_in}
use Rattle.esm_redrive_life.specs.Life.{IsLife as IsRedriveLife, Redriven as OneRedrive, Rewritten as WrittenAnew, Stage as RedriveStage, content as redrive_content, dead_lines as redrive_lines}
use Rattle.esm_queue_life.specs.Life.{Ran, Redriven, Rewritten, Stage, content, dead_lines}

-- a life as a list of redrives; a run between them counts as writing anew the content that it left
abbrev pub under_redrives : List Stage → List RedriveStage
under_redrives [] = []
under_redrives (Ran r ∷ stages) = WrittenAnew (content_after r.setting r.recorded (content stages)) ∷ under_redrives stages
under_redrives (Redriven r ∷ stages) = OneRedrive r ∷ under_redrives stages
under_redrives (Rewritten list ∷ stages) = WrittenAnew list ∷ under_redrives stages

-- the laws over lists of redrives hold of it, with the same content and the same dead letters
pub record IsUnderRedrives (fifo : Bool) (life : List Stage) : Type 0 where
  pub is_life : IsRedriveLife fifo (under_redrives life)
  pub content_is : redrive_content (under_redrives life) ≡ content life
  pub lines_are : redrive_lines (under_redrives life) ≡ dead_lines life

-- the ids of the messages of the lines in the dead-letter file; of a FIFO queue a message has a group
abbrev pub lined_ids : Bool → List Stage → List (List ℕ)
lined_ids fifo life = dead_ids fifo (dead_lines life)

-- A message waits, or is one of succeeded, filtered and moved; the line of each moved one is in the dead-letter file; each
-- id is in at most one line of it; and the file stays good for the next redrive.
pub record KeepsDeadLetters (fifo : Bool) (life : List Stage) : Type 0 where
  pub one_end : (i : ℕ) (k : KeptFate) → deletion_in (content life) i ≡ Some k → is_redrive_fate k.fate ≡ true
  pub lined : (i : ℕ) (k : KeptFate) → deletion_in (content life) i ≡ Some k → k.fate ≡ Exhausted → stands_among (lined_ids fifo life) k.text ≡ true
  pub once : EachOnce (lined_ids fifo life)
  pub letters : AreLetters fifo (dead_lines life) (length (dead_lines life))
