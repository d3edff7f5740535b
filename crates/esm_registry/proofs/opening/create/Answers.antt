use Rattle.std.proofs.Common.{◌∙◌, Some, ap, sym, arith}
use Rattle.esm_registry.specs.declared.mapping.Mapping.{Mapping}
use Rattle.esm_registry.specs.Payload.{after_created}
use Rattle.esm_registry.proofs.Commands.{created_after}
use Rattle.esm_registry.proofs.opening.create.Goals as goal

pub returns-in-Some-clause-made : goal.returns-in-Some-clause-made
returns-in-Some-clause-made c = ap (after_created c.args.table.now.mappings c.args.id c.args.moment c.args.config) (sym c.in-Some.ensures)

pub add-requires-clause-is_new : goal.add-requires-clause-is_new
add-requires-clause-is_new c = sym c.in-None.ensures

pub count_creation-requires : goal.count_creation-requires
count_creation-requires c =
    let same = ap (λ t. t.mappings.created) c.in_ok-add-in-None.ensures.added in
    omega (arith, same, c.created.ensures.created)

pub returns-in_ok-add-in-None-clause-made : goal.returns-in_ok-add-in-None-clause-made
returns-in_ok-add-in-None-clause-made c =
    let m : Mapping = record { id = c.args.id; config = c.args.config; created = c.args.moment; modified = c.args.moment } in
    ap (after_created c.args.table.now.mappings c.args.id c.args.moment c.args.config) (sym c.in-None.ensures)
    ∙ ap Some (sym (ap (λ t. t.mappings) (created_after c.args.table.now c.add.new.self c.count_creation.new.self m c.requires.free c.in_ok-add-in-None.ensures.added c.count_creation.ensures)))

pub returns-in_ok-add-in-None-clause-free : goal.returns-in_ok-add-in-None-clause-free
returns-in_ok-add-in-None-clause-free c =
    let m : Mapping = record { id = c.args.id; config = c.args.config; created = c.args.moment; modified = c.args.moment } in
    ap (λ t. t.promised) (created_after c.args.table.now c.add.new.self c.count_creation.new.self m c.requires.free c.in_ok-add-in-None.ensures.added c.count_creation.ensures)
