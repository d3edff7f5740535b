use Rattle.std.proofs.Common.{subst}
use Rattle.esm_io.specs.Meanings.{disk as meaning}
use Rattle.esm_registry.specs.Applying.{Obeys}
use Rattle.esm_registry.specs.Machine.{asked, step_at}
use Rattle.esm_registry.proofs.obeying.obey.Goals as goal

pub returns-clause-obeys : goal.returns-clause-obeys
returns-clause-obeys g c =
    subst (λ moment. Obeys (meaning g.D.Disk) c.args.table.now c.obey_at-outcome.new.table c.args.journal.now c.obey_at-outcome.new.journal
    (step_at c.args.table.now.mappings (asked c.args.command) moment) c.obey_at-outcome.result) c.min.ensures c.obey_at-outcome.ensures
