use Rattle.esm_io.specs.Meanings.{disk as meaning}
use Rattle.esm_folder.proofs.Safe.{safe_made}
use Rattle.esm_folder.proofs.making.journal.Goals as goal

-- src/making.rt:30:1
pub returns-clause-safe : goal.returns-clause-safe
returns-clause-safe g c =
    let e = c.first.ensures in
    safe_made (meaning g.D.Disk) c.args.disk c.first.result e.honesty e.count e.was_empty e.any_moment
