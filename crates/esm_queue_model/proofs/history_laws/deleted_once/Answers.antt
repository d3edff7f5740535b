use Rattle.esm_queue_model.proofs.QueueHistories.{deleted_once_in}
use Rattle.esm_queue_model.proofs.history_laws.deleted_once.Goals as goal

pub returns : goal.returns
returns c = deleted_once_in
