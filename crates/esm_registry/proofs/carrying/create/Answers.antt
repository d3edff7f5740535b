use Rattle.std.proofs.Common.{◌≡◌, ◌∙◌, Some, Err, ap, sym, subst, arith}
use Rattle.esm_io.specs.Meanings.{disk as meaning}
use Rattle.esm_registry.specs.Applying.{Obeys, creation_step, after_creation}
use Rattle.esm_registry.specs.Pairs.{arns}
use Rattle.esm_registry.specs.declared.command.Applied.TheVariants.{One}
use Rattle.esm_registry.specs.declared.command.RegistryError.TheVariants as error
use Rattle.esm_registry.proofs.Commands.{obeys_no_memory, obeys_done, obeys_failed, has_added, created_after, taken_back}
use Rattle.esm_registry.proofs.Results.{on_ok_at, on_err_at}
use Rattle.esm_registry.proofs.Writing.{stays}
use Rattle.esm_registry.proofs.carrying.create.Goals as goal

pub returns-then-is_err : goal.returns-then-is_err
returns-then-is_err g c =
    let m = (meaning g.D.Disk) in
    let old = c.args.table.now in
    let j = c.args.journal.now in
    let same : c.add.new.self ≡ old = on_err_at c.add.result (sym c.is_err.ensures.value ∙ c.if-is_err.true) c.add.ensures.kept in
    subst (λ t. Obeys m old t j j (creation_step old.mappings c.args.creation) (Err error.OutOfMemory)) (sym same)
    (obeys_no_memory m old j (creation_step old.mappings c.args.creation) c.requires.ready
    (λ honest payload. stays m j payload (λ left since. g.met.D.Disk.only_now j.disk left honest since) (c.payloads.ensures.kept honest c.requires.ready.up)))

pub count_creation-requires : goal.count_creation-requires
count_creation-requires g c =
    let added = on_ok_at c.add.result (sym c.is_err.ensures.value ∙ c.if-is_err.false) c.add.ensures.added in
    let same = ap (λ t. t.mappings.created) added in
    omega (arith, same, c.requires.creation.counts)

pub returns-in-Ok : goal.returns-in-Ok
returns-in-Ok g c =
    let added = on_ok_at c.add.result (sym c.is_err.ensures.value ∙ c.if-is_err.false) c.add.ensures.added in
    let old = c.args.table.now in
    obeys_done (meaning g.D.Disk) old c.count_creation.new.self c.args.journal.now c.write.new.journal c.deref.result.now c.args.creation.payload.items (after_creation old.mappings c.args.creation)
    (One 202 c.args.creation.text) c.in-Ok.field-0 c.requires.ready c.requires.creation.payload c.deref.ensures.value c.in-Ok.ensures
    (created_after old c.add.new.self c.count_creation.new.self c.args.creation.mapping c.requires.ready.free added c.count_creation.ensures)

pub remove-requires : goal.remove-requires
remove-requires g c =
    let added = on_ok_at c.add.result (sym c.is_err.ensures.value ∙ c.if-is_err.false) c.add.ensures.added in
    has_added c.args.table.now c.add.new.self c.args.creation.mapping (arns c.args.creation.undo) c.requires.creation.is_new c.requires.creation.undo added

pub returns : goal.returns
returns g c =
    let added = on_ok_at c.add.result (sym c.is_err.ensures.value ∙ c.if-is_err.false) c.add.ensures.added in
    let old = c.args.table.now in
    obeys_failed (meaning g.D.Disk) old c.remove.new.self c.args.journal.now c.write.new.journal c.deref.result.now (creation_step old.mappings c.args.creation) c.in-Err.error c.requires.ready (ap Some c.deref.ensures.value) c.in-Err.ensures
    (taken_back old c.add.new.self c.remove.new.self c.args.creation.mapping c.requires.creation.is_new added c.remove.ensures)
