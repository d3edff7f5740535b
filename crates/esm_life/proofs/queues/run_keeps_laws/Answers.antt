use Rattle.esm_life.proofs.QueueFiles.{keeps_laws}
use Rattle.esm_life.proofs.queues.run_keeps_laws.Goals as goal

pub returns : goal.returns
returns c = keeps_laws c.queue_laws_hold.ensures
