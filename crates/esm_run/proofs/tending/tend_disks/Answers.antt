use Rattle.std.proofs.Common.{subst, sym}
use Rattle.std.specs.Prelude.{IfOk}
use Rattle.esm_io.specs.Meanings.{disk as meaning}
use Rattle.esm_run.specs.Tended.{IsLeft, IsUpkeepEnd}
use Rattle.esm_run.proofs.Lefts.{compact_left, migrate_end}
use Rattle.esm_run.proofs.tending.tend_disks.Goals as goal

pub returns-in-Compact-clause-left : goal.returns-in-Compact-clause-left
returns-in-Compact-clause-left g c =
    let m = meaning g.D.Disk in
    let new = c.beside-in-Compact.result.disks in
    subst (λ u. IsLeft m c.args.disks new u) (sym c.in-Compact.is)
    (compact_left m c.args.disks new c.compact.result.journal c.compact.result.spare c.beside-in-Compact.ensures.disks c.compact.ensures.images c.compact.ensures.kept)

pub returns-in-Migrate-clause-end : goal.returns-in-Migrate-clause-end
returns-in-Migrate-clause-end g c =
    let m = meaning g.D.Disk in
    let new = c.beside-in-Migrate.result.disks in
    subst (λ u. IfOk c.beside-in-Migrate.result.end (IsUpkeepEnd m u c.args.disks new)) (sym c.in-Migrate.is)
    (migrate_end m c.args.disks new c.migrate.result.journal c.migrate.result.spare c.beside-in-Migrate.result.end c.migrate.result.end
    c.beside-in-Migrate.ensures.disks c.beside-in-Migrate.ensures.end c.migrate.ensures.end)
