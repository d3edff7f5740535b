use Rattle.std.proofs.Common.{◌≡◌, ◌∙◌, true, false, refl, sym, ap}
use Rattle.std.specs.Coded.{Coded}
use Rattle.esm_model.specs.Entries.{is_shut}
use Rattle.esm_queue_core.specs.Next.{is_all_deleted}
use Rattle.esm_queue_book.specs.Books.{BookState}
use Rattle.esm_queue_book.proofs.Standing.{past_told}
use Rattle.esm_queue_book.proofs.Over.{all_deleted, one_waits}
use Rattle.esm_queue_book.proofs.Pooling.{finished_told, left_told}
use Rattle.esm_queue_book.proofs.pooled.QueueBookPooled.is_over.Goals as goal

pub returns : goal.returns
returns g c =
    let code : Coded g.row.D.Denot = g.row.D.coded in
    let b : BookState g.row.D.Denot = c.args.self.now in
    record {
      over = λ is k low.
          let all : is_all_deleted b.core.setting b.core.past ≡ true = sym c.is_over.ensures ∙ (cc) in
          finished_told code b b refl c.know.ensures.sound k (ap is_shut (sym (past_told b.core)) ∙ c.requires.shut, all_deleted b.core.setting b.core.past all);
      left = λ is.
          let some : is_all_deleted b.core.setting b.core.past ≡ false = sym c.is_over.ensures ∙ (cc) in
          (0, c.requires.number.0, left_told code b b refl c.know.ensures.sound 0 (one_waits b.core.setting b.core.past some));
    }
