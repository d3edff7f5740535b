use Rattle.esm_queue_core.specs.CoreView.{all_messages}
use Rattle.esm_queue_book.specs.Keeping.{entries_left}
use Rattle.esm_queue_book.proofs.Going.{opens_first}
use Rattle.esm_queue_book.proofs.Standing.{left_so}
use Rattle.esm_queue_book.proofs.queue_book.QueueBook.since_before.Goals as goal

pub returns : goal.returns
returns g c =
    rw (← c.self.view_is) (λ honest spare only other_only one other i j.
    let b = c.self.inside.durable in
    opens_first _ b.found.epoch b.found.payloads b.found_dest b.dest _ (all_messages b.core) (entries_left b) one other (left_so b) (c.since_before.ensures honest spare only other_only one other i j))
