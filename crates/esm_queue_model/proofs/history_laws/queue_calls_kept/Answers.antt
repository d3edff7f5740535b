use Rattle.esm_queue_model.proofs.QueueBookLaws.{calls_kept}
use Rattle.esm_queue_model.proofs.history_laws.queue_calls_kept.Goals as goal

pub returns : goal.returns
returns c = calls_kept
