use Rattle.esm_queue_model.proofs.QueueBookLaws.{kept_legal}
use Rattle.esm_queue_model.proofs.queue_book_laws.kept_queue_is_legal.Goals as goal

pub returns : goal.returns
returns c = kept_legal
