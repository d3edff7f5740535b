use Rattle.esm_queue_book.proofs.queue_book.QueueBook.is_over.Goals as goal

pub returns : goal.returns
returns g c = rw (← c.self.view_is) ((rw c.core.ensures at c.is_over.ensures) c.self.invariant.legal)
