use Rattle.std.proofs.Common.{subst}
use Rattle.esm_io.specs.Meanings.{disk as meaning}
use Rattle.esm_journal.specs.State.{KeepsWhileDown}
use Rattle.esm_runner.proofs.run.closed.Goals as goal

pub returns-clause-dest_stopped : goal.returns-clause-dest_stopped
returns-clause-dest_stopped g c =
    let m = meaning g.D.Disk in
    subst (KeepsWhileDown m) c.into_journal-lines.ensures c.payloads-2.ensures.stopped
