use Rattle.esm_queue_book.proofs.LastingItems.{none_first}
use Rattle.esm_queue_book.proofs.lasting.queue_batchers_begin.Goals as goal

pub returns-clause-items : goal.returns-clause-items
returns-clause-items c = none_first
