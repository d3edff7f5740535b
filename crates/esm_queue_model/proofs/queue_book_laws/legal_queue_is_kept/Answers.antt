use Rattle.esm_queue_model.proofs.QueueBookLaws.{legal_kept}
use Rattle.esm_queue_model.proofs.queue_book_laws.legal_queue_is_kept.Goals as goal

pub returns : goal.returns
returns c = legal_kept
