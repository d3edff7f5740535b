use Rattle.std.proofs.Common.{sym, subst}
use Rattle.esm_io.specs.Meanings.{disk as meaning}
use Rattle.esm_registry.specs.Applying.{Obeys}
use Rattle.esm_registry.specs.Lists.{mapping_at}
use Rattle.esm_registry.specs.Machine.{deleted}
use Rattle.esm_registry.proofs.Commands.{obeys_answer, obeys_no_memory}
use Rattle.esm_registry.proofs.Writing.{stays}
use Rattle.esm_registry.proofs.obeying.delete.Goals as goal

pub returns-in-Ok-Answer : goal.returns-in-Ok-Answer
returns-in-Ok-Answer g c =
    let s = c.args.table.now.mappings in
    obeys_answer (meaning g.D.Disk) c.args.table.now c.args.journal.now
    (deleted s c.args.id.now c.args.moment (mapping_at c.args.id.now s.list)) c.in-Ok-Answer.answer c.requires.ready
    (λ honest payload. stays (meaning g.D.Disk) c.args.journal.now payload (λ left since. g.met.D.Disk.only_now c.args.journal.now.disk left honest since) (c.payloads.ensures.kept honest c.requires.ready.up))
    (rw c.in-Ok-Answer.field-0-is at c.in-Ok-Answer.ensures)

pub delete-requires-clause-deletion : goal.delete-requires-clause-deletion
delete-requires-clause-deletion g c = (rw c.in-Ok-Change.field-0-is at c.in-Ok-Change.ensures).1

pub returns-in-Ok-Change : goal.returns-in-Ok-Change
returns-in-Ok-Change g c =
    subst (λ st. Obeys (meaning g.D.Disk) c.args.table.now c.delete.new.table c.args.journal.now c.delete.new.journal st c.delete.result)
    (sym (rw c.in-Ok-Change.field-0-is at c.in-Ok-Change.ensures).0) c.delete.ensures

pub returns-in-Err : goal.returns-in-Err
returns-in-Err g c =
    let s = c.args.table.now.mappings in
    obeys_no_memory (meaning g.D.Disk) c.args.table.now c.args.journal.now
    (deleted s c.args.id.now c.args.moment (mapping_at c.args.id.now s.list)) c.requires.ready
    (λ honest payload. stays (meaning g.D.Disk) c.args.journal.now payload (λ left since. g.met.D.Disk.only_now c.args.journal.now.disk left honest since) (c.payloads.ensures.kept honest c.requires.ready.up))
