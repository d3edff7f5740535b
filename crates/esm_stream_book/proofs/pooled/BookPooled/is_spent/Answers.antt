use Rattle.std.proofs.Common.{◌≤◌, arith}
use Rattle.esm_model.specs.Entries.{calls_begun}
use Rattle.esm_stream_book.proofs.PoolingSteps.{still_told, told_still}
use Rattle.esm_stream_book.proofs.pooled.BookPooled.is_spent.Goals as goal

pub returns-clause-spent : goal.returns-clause-spent
returns-clause-spent g c = λ is.
    still_told g.row.D.coded g.row.T.coded g.T.Dest.lines c.args.self.now 0 c.trouble-trouble.ensures.sound (λ s h. s.calls ≤ calls_begun h) (c.is_spent.ensures.spent is)

pub returns-clause-going : goal.returns-clause-going
returns-clause-going g c = λ is spent.
    let made = told_still g.row.D.coded g.row.T.coded g.T.Dest.lines c.args.self.now 0 c.trouble-trouble.ensures.sound (λ s h. s.calls ≤ calls_begun h) spent in
    let few = c.is_spent.ensures.going is in
    omega (arith, made, few)
