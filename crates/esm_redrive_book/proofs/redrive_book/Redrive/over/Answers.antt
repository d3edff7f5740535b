use Rattle.std.proofs.Common.{ap, ◌∙◌}
use Rattle.esm_redrive_book.specs.Books.{BookState}
use Rattle.esm_redrive_book.proofs.Standing.{sound_new}
use Rattle.esm_redrive_book.proofs.redrive_book.Redrive.over.Goals as goal

pub invariant_of-result : goal.invariant_of-result
invariant_of-result g c =
    sound_new c.new.result (ap (λ (b : BookState g.row.D.Denot g.row.T.Denot). b.core.past) c.new.ensures ∙ c.requires.empty) (ap (λ (b : BookState g.row.D.Denot g.row.T.Denot). b.core.owed) c.new.ensures ∙ c.requires.settled)
    (ap (λ (b : BookState g.row.D.Denot g.row.T.Denot). b.trouble) c.new.ensures)
