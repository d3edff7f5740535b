use Rattle.esm_queue_life.proofs.Histories.{none_deleted}
use Rattle.esm_redrive_life.proofs.Rising.{queue_tells}
use Rattle.esm_queue_life.proofs.history.no_deleted_is_called.Goals as goal

pub returns : goal.returns
returns c = λ s h legal. none_deleted s h (queue_tells s h legal).0
