use Rattle.esm_queue_model.proofs.QueueBookLaws.{kept_told}
use Rattle.esm_queue_model.proofs.queue_book_laws.kept_is_of_queue.Goals as goal

pub returns : goal.returns
returns c = kept_told
