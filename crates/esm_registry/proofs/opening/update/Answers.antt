use Rattle.std.proofs.Common.{◌≡◌, ◌∙◌, Some, ap, sym}
use Rattle.esm_registry.specs.Lists.{Mappings, changed, mapping_at, replaced}
use Rattle.esm_registry.specs.Pairs.{arns}
use Rattle.esm_registry.specs.Payload.{after_updated}
use Rattle.esm_registry.proofs.Commands.{updated_after}
use Rattle.esm_registry.proofs.Planning.{found_id}
use Rattle.esm_registry.proofs.opening.update.Goals as goal

pub returns-in-None-clause-made : goal.returns-in-None-clause-made
returns-in-None-clause-made c = ap (after_updated c.args.table.now.mappings c.args.id c.args.moment c.args.config) (sym c.in-None.ensures)

pub replace-requires-clause-its : goal.replace-requires-clause-its
replace-requires-clause-its c =
    let m = c.in-Some.there.now in
    let list = c.args.table.now.mappings.list in
    let at : mapping_at c.args.id list ≡ Some m = sym c.in-Some.ensures in
    record {
      mapping = m;
      there = ap (λ t. mapping_at m.id t.mappings.list) c.in_ok-promise-in-Some.ensures.promised ∙ ap (λ i. mapping_at i list) (found_id c.args.id m list at) ∙ at;
      pair = c.in_ok-old-in-Some.ensures;
    }

pub replace-requires-clause-promised : goal.replace-requires-clause-promised
replace-requires-clause-promised c = ap (λ t. t.promised) c.in_ok-promise-in-Some.ensures.promised ∙ ap Some c.in_ok-pair.ensures

pub returns-in_ok-promise-in-Some-clause-made : goal.returns-in_ok-promise-in-Some-clause-made
returns-in_ok-promise-in-Some-clause-made c =
    let s = c.args.table.now.mappings in
    let m = c.in-Some.there.now in
    let w = changed m c.args.config c.args.moment in
    let at : mapping_at c.args.id s.list ≡ Some m = sym c.in-Some.ensures in
    ap (after_updated s c.args.id c.args.moment c.args.config) at
    ∙ ap (λ i. let t : Mappings = record { list = replaced i w s.list; created = s.created } in Some t) (sym (found_id c.args.id m s.list at))
    ∙ ap Some (sym (ap (λ t. t.mappings) (updated_after c.args.table.now c.promise.new.self c.replace.new.self w (arns c.in_ok-pair.pair) c.in_ok-promise-in-Some.ensures.promised c.replace.ensures)))

pub returns-in_ok-promise-in-Some-clause-free : goal.returns-in_ok-promise-in-Some-clause-free
returns-in_ok-promise-in-Some-clause-free c = ap (λ t. t.promised) c.replace.ensures
