-- What holds of a queue's life by the laws over lists of redrives.
use Rattle.std.proofs.Common.{◌≡◌, ◌∙◌, ℕ, Bool, true, List, length, Some, ap, subst}
use Rattle.esm_journal_state.specs.declared.kept.KeptFate.{KeptFate}
use Rattle.esm_model.specs.declared.entry.Fate.TheVariants.{Exhausted}
use Rattle.esm_redrive.specs.DeadFile.{AreLetters, dead_ids}
use Rattle.esm_redrive_life.specs.Content.{deletion_in}
use Rattle.esm_redrive_life.specs.Life.{EachHasOneEnd, IsLife as IsRedriveLife, MovesAreLined, Stage as RedriveStage, content as redrive_content, dead_lines as redrive_lines, lined_ids as redrive_ids}
use Rattle.esm_redrive_life.proofs.Saying.{ReadAgain}
use Rattle.esm_redrive_model.specs.RedriveLaws.{EachOnce, is_redrive_fate}
use Rattle.esm_redrive_model.specs.RedriveSetting.{stands_among}
use Rattle.esm_queue_life.specs.Life.{IsLife, Stage, content, dead_lines}
use Rattle.esm_queue_life.specs.UnderRedrives.{KeepsDeadLetters, under_redrives}
use Rattle.esm_queue_life.proofs.UnderRedrives.{is_one, same_content, same_lines}

-- the laws over lists of redrives
pub record AreDeadLetterLaws : Type 0 where
  pub one_end : (fifo : Bool) (life : List RedriveStage) → IsRedriveLife fifo life → EachHasOneEnd life
  pub lined : (fifo : Bool) (life : List RedriveStage) → IsRedriveLife fifo life → MovesAreLined fifo life
  pub once : (fifo : Bool) (life : List RedriveStage) → IsRedriveLife fifo life → EachOnce (redrive_ids fifo life)
  pub letters : (fifo : Bool) (life : List RedriveStage) → IsRedriveLife fifo life → AreLetters fifo (redrive_lines life) (length (redrive_lines life))

module _ (again : ReadAgain) (laws : AreDeadLetterLaws) (fifo : Bool) (life : List Stage) (is : IsLife fifo life) where
  under : IsRedriveLife fifo (under_redrives life)
  under = is_one again fifo life is

  there : (i : ℕ) (k : KeptFate) → deletion_in (content life) i ≡ Some k → deletion_in (redrive_content (under_redrives life)) i ≡ Some k
  there i k at = ap (λ (list : List (List ℕ)). deletion_in list i) (same_content life) ∙ at

  has_one_end : (i : ℕ) (k : KeptFate) → deletion_in (content life) i ≡ Some k → is_redrive_fate k.fate ≡ true
  has_one_end i k at = laws.one_end fifo (under_redrives life) under i k (there i k at)

  has_line : (i : ℕ) (k : KeptFate) → deletion_in (content life) i ≡ Some k → k.fate ≡ Exhausted → stands_among (dead_ids fifo (dead_lines life)) k.text ≡ true
  has_line i k at moved =
      subst (λ (lines : List (List ℕ)). stands_among (dead_ids fifo lines) k.text ≡ true) (same_lines life) (laws.lined fifo (under_redrives life) under i k (there i k at) moved)

  pub dead_letters_kept : KeepsDeadLetters fifo life
  dead_letters_kept = record {
    one_end = has_one_end;
    lined = has_line;
    once = subst (λ (lines : List (List ℕ)). EachOnce (dead_ids fifo lines)) (same_lines life) (laws.once fifo (under_redrives life) under);
    letters = subst (λ (lines : List (List ℕ)). AreLetters fifo lines (length lines)) (same_lines life) (laws.letters fifo (under_redrives life) under);
  }
