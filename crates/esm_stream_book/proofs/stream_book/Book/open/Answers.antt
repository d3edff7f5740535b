use Rattle.std.proofs.Common.{refl, ap, ◌∙◌}
use Rattle.esm_ledger.specs.Ledger.{opened_with}
use Rattle.esm_stream_book.specs.Books.{BookState}
use Rattle.esm_stream_book.proofs.Standing.{sound_new}
use Rattle.esm_stream_book.proofs.stream_book.Book.open.Goals as goal

pub invariant_of-result : goal.invariant_of-result
invariant_of-result g c =
    let over = c.in-Ok.ensures.opened in
    sound_new c.new.result (opened_with c.args.config c.args.calls over.said) refl (ap (λ (b : BookState g.row.D.Denot g.row.T.Denot). b.core) c.new.ensures ∙ over.is) (ap (λ (b : BookState g.row.D.Denot g.row.T.Denot). b.trouble) c.new.ensures)
