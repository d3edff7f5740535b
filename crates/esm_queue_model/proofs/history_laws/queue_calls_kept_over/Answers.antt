use Rattle.esm_queue_model.proofs.QueueBookLaws.{calls_kept_over}
use Rattle.esm_queue_model.proofs.history_laws.queue_calls_kept_over.Goals as goal

pub returns : goal.returns
returns c = calls_kept_over
