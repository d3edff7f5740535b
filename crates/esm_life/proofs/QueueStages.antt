-- Each stage of a queue's life keeps the laws over the whole life.
use Rattle.std.proofs.Common.{◌≡◌, Bool, List, [], ◌∷◌, Some, subst}
use Rattle.esm_queue_life.specs.Life.{IsLife, Run, Stage, run_of}
use Rattle.esm_life.specs.QueueLaws.{AreQueueLaws}
use Rattle.esm_life.specs.Queues.{KeepsLaws}

pub laws_kept : AreQueueLaws → (fifo : Bool) (stage : Stage) (r : Run) (life : List Stage) → IsLife fifo (stage ∷ life) → run_of stage ≡ Some r → KeepsLaws fifo stage r life
laws_kept laws fifo stage r life is own = record {
  deletions_stay = laws.stays fifo (stage ∷ []) life is;
  each_deleted_once = laws.once fifo (stage ∷ life) is;
  deletions_are_recorded = laws.recorded fifo stage r life is own;
  ids_are_kept = laws.ids fifo stage r life is own;
  none_is_called_again = laws.called fifo stage r life is own;
  groups_in_order = λ in_groups. laws.order stage r life (subst (λ (b : Bool). IsLife b (stage ∷ life)) in_groups is) own;
  goes_on = λ later next between next_life rewritten next_own. laws.goes_on fifo later stage next r between life next_life rewritten next_own own;
}
