use Rattle.esm_queue_book.proofs.LastingItems.{items_last, shut_last}
use Rattle.esm_queue_book.proofs.lasting.queue_items_last.Goals as goal

pub returns : goal.returns
returns c = record { items = items_last; shut = shut_last }
