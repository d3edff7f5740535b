use Rattle.esm_redrive_run.specs.Headline.{Words}
use Rattle.esm_redrive_run.proofs.Begins.{begun}
use Rattle.esm_redrive_run.proofs.redrive_run.begin.Goals as goal

pub returns-in-Ok-open_redrive-clause-begun : goal.returns-in-Ok-open_redrive-clause-begun
returns-in-Ok-open_redrive-clause-begun g c =
    let w : Words = record { config = c.args.config; calls = c.args.calls; visibility = c.args.visibility_ms; max_receives = c.args.max_receives } in
    begun w c.args.said.now c.args.pair c.args.dead c.args.input c.in-Ok-open_redrive.redrive c.in-Ok-new.input c.in-Ok.name c.same_told.ensures c.requires.tells c.requires.order
    c.in-Ok-open_redrive.ensures.opened (rw c.line_kind-kind.ensures at c.in-Ok-new.ensures.made) c.in-Ok-new.ensures.nothing c.in-Ok.ensures
