use Rattle.std.proofs.Common.{◌≡◌, ◌∙◌, Some, Err, ap, sym, subst}
use Rattle.esm_io.specs.Meanings.{disk as meaning}
use Rattle.esm_registry.specs.Applying.{Obeys, update_step, after_update}
use Rattle.esm_registry.specs.Index.{HasPair}
use Rattle.esm_registry.specs.Pairs.{arns}
use Rattle.esm_registry.specs.declared.command.Applied.TheVariants.{One}
use Rattle.esm_registry.specs.declared.command.RegistryError.TheVariants as error
use Rattle.esm_registry.proofs.Commands.{obeys_no_memory, obeys_done, obeys_failed, updated_after, released_again}
use Rattle.esm_registry.proofs.Results.{on_ok_at, on_err_at}
use Rattle.esm_registry.proofs.Writing.{stays}
use Rattle.esm_registry.proofs.carrying.update.Goals as goal

pub returns-then-is_err : goal.returns-then-is_err
returns-then-is_err g c =
    let m = (meaning g.D.Disk) in
    let old = c.args.table.now in
    let j = c.args.journal.now in
    let same : c.promise.new.self ≡ old = on_err_at c.promise.result (sym c.is_err.ensures.value ∙ c.if-is_err.true) c.promise.ensures.kept in
    subst (λ t. Obeys m old t j j (update_step old.mappings c.args.update) (Err error.OutOfMemory)) (sym same)
    (obeys_no_memory m old j (update_step old.mappings c.args.update) c.requires.ready
    (λ honest payload. stays m j payload (λ left since. g.met.D.Disk.only_now j.disk left honest since) (c.payloads.ensures.kept honest c.requires.ready.up)))

pub replace-requires-clause-its : goal.replace-requires-clause-its
replace-requires-clause-its g c =
    let promised = on_ok_at c.promise.result (sym c.is_err.ensures.value ∙ c.if-is_err.false) c.promise.ensures.promised in
    subst (λ t. HasPair t.mappings.list c.args.update.mapping.id (arns c.args.update.old)) (sym promised) c.requires.update.its

pub replace-requires-clause-promised : goal.replace-requires-clause-promised
replace-requires-clause-promised g c =
    let promised = on_ok_at c.promise.result (sym c.is_err.ensures.value ∙ c.if-is_err.false) c.promise.ensures.promised in
    ap (λ t. t.promised) promised ∙ ap Some c.requires.update.pair

pub returns-in-Ok : goal.returns-in-Ok
returns-in-Ok g c =
    let promised = on_ok_at c.promise.result (sym c.is_err.ensures.value ∙ c.if-is_err.false) c.promise.ensures.promised in
    let old = c.args.table.now in
    obeys_done (meaning g.D.Disk) old c.replace.new.self c.args.journal.now c.write.new.journal c.deref.result.now c.args.update.payload.items (after_update old.mappings c.args.update)
    (One 202 c.args.update.text) c.in-Ok.field-0 c.requires.ready c.requires.update.payload c.deref.ensures.value c.in-Ok.ensures
    (updated_after old c.promise.new.self c.replace.new.self c.args.update.mapping (arns c.args.update.pair) promised c.replace.ensures)

pub returns-in-Err : goal.returns-in-Err
returns-in-Err g c =
    let promised = on_ok_at c.promise.result (sym c.is_err.ensures.value ∙ c.if-is_err.false) c.promise.ensures.promised in
    let old = c.args.table.now in
    obeys_failed (meaning g.D.Disk) old c.release.new.self c.args.journal.now c.write.new.journal c.deref.result.now (update_step old.mappings c.args.update) c.in-Err.error c.requires.ready (ap Some c.deref.ensures.value) c.in-Err.ensures
    (released_again old c.promise.new.self c.release.new.self (arns c.args.update.pair) c.requires.ready.free promised c.release.ensures)
