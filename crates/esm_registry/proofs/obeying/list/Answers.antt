use Rattle.std.proofs.Common.{◌∙◌, ap, sym}
use Rattle.esm_io.specs.Meanings.{disk as meaning}
use Rattle.esm_registry.specs.Machine.{answered}
use Rattle.esm_registry.specs.Texts.{list_text}
use Rattle.esm_registry.specs.declared.command.Applied.TheVariants.{Many}
use Rattle.esm_registry.proofs.Commands.{obeys_answer, obeys_no_memory}
use Rattle.esm_registry.proofs.Writing.{stays}
use Rattle.esm_registry.proofs.obeying.list.Goals as goal

pub returns-in-Ok : goal.returns-in-Ok
returns-in-Ok g c =
    let s = c.args.table.now.mappings in
    obeys_answer (meaning g.D.Disk) c.args.table.now c.args.journal.now (answered s (Many (list_text s.list))) (Many c.from_vec.result) c.requires.ready
    (λ honest payload. stays (meaning g.D.Disk) c.args.journal.now payload (λ left since. g.met.D.Disk.only_now c.args.journal.now.disk left honest since) (c.payloads.ensures.kept honest c.requires.ready.up))
    (ap (λ t. answered s (Many t)) (sym (c.from_vec.ensures ∙ c.in-Ok.ensures)))

pub returns-in-Err : goal.returns-in-Err
returns-in-Err g c =
    let s = c.args.table.now.mappings in
    obeys_no_memory (meaning g.D.Disk) c.args.table.now c.args.journal.now (answered s (Many (list_text s.list))) c.requires.ready
    (λ honest payload. stays (meaning g.D.Disk) c.args.journal.now payload (λ left since. g.met.D.Disk.only_now c.args.journal.now.disk left honest since) (c.payloads.ensures.kept honest c.requires.ready.up))
