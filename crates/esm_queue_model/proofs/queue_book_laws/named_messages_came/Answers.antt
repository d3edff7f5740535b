use Rattle.esm_queue_model.proofs.QueueBookLaws.{named_came}
use Rattle.esm_queue_model.proofs.queue_book_laws.named_messages_came.Goals as goal

pub returns : goal.returns
returns c = named_came
