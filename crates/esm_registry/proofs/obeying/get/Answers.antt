use Rattle.esm_io.specs.Meanings.{disk as meaning}
use Rattle.esm_registry.specs.Lists.{mapping_at}
use Rattle.esm_registry.specs.Machine.{got}
use Rattle.esm_registry.proofs.Commands.{obeys_answer, obeys_no_memory}
use Rattle.esm_registry.proofs.Writing.{stays}
use Rattle.esm_registry.proofs.obeying.get.Goals as goal

pub returns-in-Ok : goal.returns-in-Ok
returns-in-Ok g c =
    let s = c.args.table.now.mappings in
    obeys_answer (meaning g.D.Disk) c.args.table.now c.args.journal.now (got s (mapping_at c.args.id.now s.list)) c.in-Ok.answer c.requires.ready
    (λ honest payload. stays (meaning g.D.Disk) c.args.journal.now payload (λ left since. g.met.D.Disk.only_now c.args.journal.now.disk left honest since) (c.payloads.ensures.kept honest c.requires.ready.up))
    c.in-Ok.ensures

pub returns-in-Err : goal.returns-in-Err
returns-in-Err g c =
    let s = c.args.table.now.mappings in
    obeys_no_memory (meaning g.D.Disk) c.args.table.now c.args.journal.now (got s (mapping_at c.args.id.now s.list)) c.requires.ready
    (λ honest payload. stays (meaning g.D.Disk) c.args.journal.now payload (λ left since. g.met.D.Disk.only_now c.args.journal.now.disk left honest since) (c.payloads.ensures.kept honest c.requires.ready.up))
