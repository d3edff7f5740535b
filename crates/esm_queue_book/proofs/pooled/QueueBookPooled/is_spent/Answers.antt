use Rattle.std.proofs.Common.{◌≡◌, ◌∙◌, eqb, sym, ap, eq-eqb}
use Rattle.std.proofs.lemmas.Bool.{eqb-true, both_ways}
use Rattle.std.specs.Coded.{Coded}
use Rattle.esm_model.specs.Entries.{calls_begun}
use Rattle.esm_queue_book.specs.Books.{BookState}
use Rattle.esm_queue_book.proofs.Standing.{past_told}
use Rattle.esm_queue_book.proofs.Pooling.{spent_told}
use Rattle.esm_queue_book.proofs.pooled.QueueBookPooled.is_spent.Goals as goal

pub returns : goal.returns
returns g c =
    let code : Coded g.row.D.Denot = g.row.D.coded in
    let b : BookState g.row.D.Denot = c.args.self.now in
    record {
      spent = λ is. spent_told code b b (eqb-true (calls_begun b.core.past) b.core.setting.calls (sym c.is_spent.ensures ∙ is));
      going = λ is spent.
          let all : calls_begun b.core.past ≡ b.core.setting.calls = ap calls_begun (sym (past_told b.core)) ∙ spent in
          both_ways (eqb (calls_begun b.core.past) b.core.setting.calls) (sym c.is_spent.ensures ∙ is) (eq-eqb (calls_begun b.core.past) b.core.setting.calls all);
    }
