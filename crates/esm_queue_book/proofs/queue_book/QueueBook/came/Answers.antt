use Rattle.std.proofs.Common.{sym, subst}
use Rattle.esm_queue_core.specs.Coming.{IsFirstChange}
use Rattle.esm_queue_book.specs.Books.{BookState}
use Rattle.esm_queue_book.proofs.queue_book.QueueBook.came.Goals as goal

pub returns-in-Ok-clause-is_changed : goal.returns-in-Ok-clause-is_changed
returns-in-Ok-clause-is_changed g c = λ change first.
    absurd (c.in-Ok.ensures.no_change change (subst (λ (b : BookState g.row.D.Denot). IsFirstChange b.core c.args.items.items change) (sym c.self.view_is) first))

pub returns-in-Err-DiskFault-clause-is_changed : goal.returns-in-Err-DiskFault-clause-is_changed
returns-in-Err-DiskFault-clause-is_changed g c = λ change first.
    let some = rw c.in-Err-DiskFault.field-0-is at c.in-Err-DiskFault.ensures in
    absurd (some.no_change change (subst (λ (b : BookState g.row.D.Denot). IsFirstChange b.core c.args.items.items change) (sym c.self.view_is) first))
