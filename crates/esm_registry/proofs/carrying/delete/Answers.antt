use Rattle.std.proofs.Common.{Some, ap, refl}
use Rattle.esm_io.specs.Meanings.{disk as meaning}
use Rattle.esm_registry.specs.Applying.{deletion_step, after_deletion}
use Rattle.esm_registry.specs.declared.command.Applied.TheVariants.{One}
use Rattle.esm_registry.proofs.Commands.{obeys_done, obeys_failed, deleted_after}
use Rattle.esm_registry.proofs.carrying.delete.Goals as goal

pub returns-in-Ok : goal.returns-in-Ok
returns-in-Ok g c =
    let old = c.args.table.now in
    obeys_done (meaning g.D.Disk) old c.remove.new.self c.args.journal.now c.write.new.journal c.deref.result.now c.args.deletion.payload.items (after_deletion old.mappings c.args.deletion)
    (One 202 c.args.deletion.text) c.in-Ok.field-0 c.requires.ready c.requires.deletion.payload c.deref.ensures.value c.in-Ok.ensures
    (deleted_after old c.remove.new.self c.args.deletion.id c.requires.ready.free c.remove.ensures)

pub returns : goal.returns
returns g c =
    let old = c.args.table.now in
    obeys_failed (meaning g.D.Disk) old old c.args.journal.now c.write.new.journal c.deref.result.now (deletion_step old.mappings c.args.deletion) c.in-Err.error c.requires.ready (ap Some c.deref.ensures.value) c.in-Err.ensures refl
