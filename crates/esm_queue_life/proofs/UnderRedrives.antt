-- A queue's life as one of redrives, between which each run wrote the content anew.
use Rattle.std.proofs.Common.{◌≡◌, ℕ, Bool, List, [], ◌∷◌, ◌++◌, ap, refl, subst, sym}
use Rattle.esm_model.specs.Books.{lines_of}
use Rattle.esm_redrive_life.specs.Content.{content_after}
use Rattle.esm_redrive_life.specs.Life.{GoesOn, IsLife as IsRedriveLife, IsRedriveOver, content as redrive_content, dead_lines as redrive_lines}
use Rattle.esm_redrive_life.proofs.Lives.{ordinary_goes, same_goes}
use Rattle.esm_redrive_life.proofs.Saying.{ReadAgain}
use Rattle.esm_queue_life.specs.Life.{IsLife, Ran, Redriven, Rewritten, Stage, content, dead_lines}
use Rattle.esm_queue_life.specs.UnderRedrives.{IsUnderRedrives, under_redrives}
use Rattle.esm_queue_life.proofs.Lives.{good}

pub same_content : (life : List Stage) → redrive_content (under_redrives life) ≡ content life
same_content [] = refl
same_content (Ran r ∷ stages) = refl
same_content (Redriven r ∷ stages) = ap (content_after r.setting.queue r.recorded) (same_content stages)
same_content (Rewritten list ∷ stages) = refl

pub same_lines : (life : List Stage) → redrive_lines (under_redrives life) ≡ dead_lines life
same_lines [] = refl
same_lines (Ran r ∷ stages) = same_lines stages
same_lines (Redriven r ∷ stages) = ap (λ (lines : List (List ℕ)). lines ++ lines_of r.lined) (same_lines stages)
same_lines (Rewritten list ∷ stages) = same_lines stages

pub is_one : ReadAgain → (fifo : Bool) (life : List Stage) → IsLife fifo life → IsRedriveLife fifo (under_redrives life)
is_one again fifo [] life = tt
is_one again fifo (Ran r ∷ stages) life = (
  is_one again fifo stages life.0,
  subst (GoesOn (content_after r.setting r.recorded (content stages))) (sym (same_content stages))
      (ordinary_goes again r.setting r.recorded (content stages) life.1.opened life.1.messages life.1.legal_recorded (good again fifo stages life.0)),
)
is_one again fifo (Redriven r ∷ stages) life = (
  is_one again fifo stages life.0,
  subst (λ (lines : List (List ℕ)). IsRedriveOver fifo r (redrive_content (under_redrives stages)) lines) (sym (same_lines stages))
      (subst (λ (old : List (List ℕ)). IsRedriveOver fifo r old (dead_lines stages)) (sym (same_content stages)) life.1),
)
is_one again fifo (Rewritten list ∷ stages) life = (is_one again fifo stages life.0, subst (GoesOn list) (sym (same_content stages)) (same_goes list (content stages) life.1.same life.1.good))

pub is_under : ReadAgain → (fifo : Bool) (life : List Stage) → IsLife fifo life → IsUnderRedrives fifo life
is_under again fifo life is = record { is_life = is_one again fifo life is; content_is = same_content life; lines_are = same_lines life }
