-- The laws of a queue's life from which those of each stage follow. Only this crate's proofs cite this.
use Rattle.std.specs.Prelude.{◌≡◌, Bool, true, List, ◌∷◌, ◌++◌, Some}
use Rattle.esm_queue_life.specs.Life.{AreRewritten, DeletionStays, EachDeletedOnce, EachIsEarned, EachRedriveIsEarned, GoesOnFrom, GroupsInOrder, IdsAreKept, IsLife, NoneIsCalledAgain, Ran, Redriven, Run, Stage, content, run_of}
use Rattle.esm_redrive_life.specs.Content.{DeletionsAreRecorded}
use Rattle.esm_redrive_life.specs.Life.{Redrive}

pub record AreQueueLaws : Type 0 where
  pub stays : (fifo : Bool) (later before : List Stage) → IsLife fifo (later ++ before) → DeletionStays later before
  pub once : (fifo : Bool) (life : List Stage) → IsLife fifo life → EachDeletedOnce life
  pub earned : (fifo : Bool) (r : Run) (before : List Stage) → IsLife fifo (Ran r ∷ before) → EachIsEarned r before
  pub redrive_earned : (fifo : Bool) (r : Redrive) (before : List Stage) → IsLife fifo (Redriven r ∷ before) → EachRedriveIsEarned fifo r before
  pub ids : (fifo : Bool) (stage : Stage) (r : Run) (before : List Stage) → IsLife fifo (stage ∷ before) → run_of stage ≡ Some r → IdsAreKept r before
  pub called : (fifo : Bool) (stage : Stage) (r : Run) (before : List Stage) → IsLife fifo (stage ∷ before) → run_of stage ≡ Some r → NoneIsCalledAgain r before
  pub order : (stage : Stage) (r : Run) (before : List Stage) → IsLife true (stage ∷ before) → run_of stage ≡ Some r → GroupsInOrder r before
  pub recorded : (fifo : Bool) (stage : Stage) (r : Run) (before : List Stage) → IsLife fifo (stage ∷ before) → run_of stage ≡ Some r → DeletionsAreRecorded (content before) r.setting r.recorded
  pub goes_on : (fifo : Bool) (later earlier : Stage) (next r : Run) (between before : List Stage) → IsLife fifo (later ∷ between ++ earlier ∷ before) → AreRewritten between → run_of later ≡ Some next → run_of earlier ≡ Some r → GoesOnFrom r next
