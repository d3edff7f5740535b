use Rattle.std.proofs.Common.{sym, subst, ap, ◌∙◌}
use Rattle.esm_replay_core.specs.View.{IsJobOut}
use Rattle.esm_replay_book.specs.Books.{BookState}
use Rattle.esm_replay_book.proofs.Endings.{up_out}
use Rattle.esm_replay_book.proofs.replay_book.Replay.stands.Goals as goal

pub returns : goal.returns
returns g c =
    let out = subst (λ (b : BookState g.row.D.Denot). IsJobOut b.core.past c.args.job.now) (sym c.self.view_is) c.requires in
    ap (λ (b : BookState g.row.D.Denot). b.trouble) (sym c.self.view_is) ∙ up_out c.self.inside.durable c.args.job.now c.self.invariant.0 out
