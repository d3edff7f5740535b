use Rattle.std.proofs.Common.{subst}
use Rattle.esm_stream_core.specs.Quiet.{IsQuiet}
use Rattle.esm_stream_core.specs.CoreView.{CoreView}
use Rattle.esm_stream_book.specs.Books.{BookState}
use Rattle.esm_stream_book.proofs.stream_book.Book.is_over.Goals as goal

pub returns-clause-over : goal.returns-clause-over
returns-clause-over g c = λ is k low.
    subst (λ (b : BookState g.row.D.Denot g.row.T.Denot). IsQuiet b.core.setting b.core.past k) c.self.view_is
    (subst (λ (v : CoreView). IsQuiet v.setting v.past k) c.core.ensures (c.is_over.ensures.over is k low))
