use Rattle.std.proofs.Common.{◌∙◌, Some, ap, sym}
use Rattle.esm_registry.specs.Payload.{after_deleted}
use Rattle.esm_registry.proofs.Commands.{deleted_after}
use Rattle.esm_registry.proofs.opening.delete.Goals as goal

pub returns-in-None-clause-made : goal.returns-in-None-clause-made
returns-in-None-clause-made c = ap (after_deleted c.args.table.now.mappings c.args.id) (sym c.in-None.ensures)

pub remove-requires : goal.remove-requires
remove-requires c = record { mapping = c.in-Some.there.now; there = sym c.in-Some.ensures; pair = c.in_ok-pair-in-Some.ensures }

pub returns-in_ok-pair-in-Some-clause-made : goal.returns-in_ok-pair-in-Some-clause-made
returns-in_ok-pair-in-Some-clause-made c =
    ap (after_deleted c.args.table.now.mappings c.args.id) (sym c.in-Some.ensures)
    ∙ ap Some (sym (ap (λ t. t.mappings) (deleted_after c.args.table.now c.remove.new.self c.args.id c.requires c.remove.ensures)))

pub returns-in_ok-pair-in-Some-clause-free : goal.returns-in_ok-pair-in-Some-clause-free
returns-in_ok-pair-in-Some-clause-free c = ap (λ t. t.promised) (deleted_after c.args.table.now c.remove.new.self c.args.id c.requires c.remove.ensures)
