use Rattle.esm_queue_life.proofs.Histories.{none_deleted}
use Rattle.esm_redrive_model.proofs.Named.{built_of}
use Rattle.esm_queue_life.proofs.history.no_deleted_is_redriven.Goals as goal

pub returns : goal.returns
returns c = λ s h legal. none_deleted s.queue h (built_of s h legal)
