use Rattle.std.proofs.Common.{sym, subst}
use Rattle.esm_replay_book.specs.Books.{BookState}
use Rattle.esm_replay_book.specs.Calls.{IsFirstChange}
use Rattle.esm_replay_book.proofs.replay_book.Replay.came.Goals as goal

pub returns-in-Ok-clause-is_changed : goal.returns-in-Ok-clause-is_changed
returns-in-Ok-clause-is_changed g c = λ change first.
    absurd (c.in-Ok.ensures.no_change change (subst (λ (b : BookState g.row.D.Denot). IsFirstChange b.core c.args.items.items change) (sym c.self.view_is) first))
