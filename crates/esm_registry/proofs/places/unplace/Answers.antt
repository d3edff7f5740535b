use Rattle.std.proofs.Common.{ap, refl, sym}
use Rattle.std.specs.BTreeMap.{is_at}
use Rattle.std.specs.Map.{lookup}
use Rattle.esm_registry.specs.Lists.{has_id}
use Rattle.esm_registry.specs.Places.{id_cmp, list_of}
use Rattle.esm_registry.proofs.IndexChanges.{index_removed, list_removed}
use Rattle.esm_registry.proofs.IndexCounts.{index_like}
use Rattle.esm_registry.proofs.IndexFacts.{found_none}
use Rattle.esm_registry.proofs.ListFacts.{without_none}
use Rattle.esm_registry.proofs.places.unplace.Goals as goal

pub returns-in-None-clause-index : goal.returns-in-None-clause-index
returns-in-None-clause-index c = λ next index.
    index_like c.args.mappings.now c.args.mappings.now c.args.places.now c.remove.new.self next index refl
    (λ q. ap (lookup (is_at (id_cmp q))) c.in-None.ensures.unchanged)

pub returns-in-None-clause-list : goal.returns-in-None-clause-list
returns-in-None-clause-list c = λ next index.
    sym (without_none (has_id c.args.id.now) (list_of c.args.mappings.now)
    (found_none c.args.places.now next c.args.id.now c.args.mappings.now.entries index.placed (sym c.in-None.ensures.value)))

pub returns-in-Some-clause-index : goal.returns-in-Some-clause-index
returns-in-Some-clause-index c = λ next index.
    index_removed c.args.mappings.now c.remove-in-Some.new.self c.args.places.now c.remove.new.self next c.args.id.now c.in-Some.place index
    (sym c.in-Some.ensures.value) c.in-Some.ensures.updates c.remove-in-Some.ensures.entries c.remove-in-Some.ensures.updates c.remove-in-Some.ensures.ordered

pub returns-in-Some-clause-list : goal.returns-in-Some-clause-list
returns-in-Some-clause-list c = λ next index.
    list_removed c.args.mappings.now c.remove-in-Some.new.self c.args.places.now next c.args.id.now c.in-Some.place index
    (sym c.in-Some.ensures.value) c.remove-in-Some.ensures.entries
