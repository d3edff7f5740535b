use Rattle.std.proofs.Common.{ap, ◌∙◌}
use Rattle.esm_queue_book.specs.Books.{BookState}
use Rattle.esm_queue_book.proofs.Standing.{sound_new}
use Rattle.esm_queue_book.proofs.queue_book.QueueBook.open.Goals as goal

pub invariant_of-result : goal.invariant_of-result
invariant_of-result g c =
    let over = c.in-Ok.ensures.opened in
    sound_new c.new.result c.args.config c.args.calls c.args.visibility_ms over.said.deletions (ap (λ (b : BookState g.row.D.Denot). b.core) c.new.ensures ∙ over.is) (ap (λ (b : BookState g.row.D.Denot). b.trouble) c.new.ensures)
