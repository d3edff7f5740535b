use Rattle.std.proofs.Common.{IsSome, refl, sym, subst}
use Rattle.std.specs.BTreeMap.{get}
use Rattle.std.specs.Ordering.{nat_cmp}
use Rattle.esm_registry.specs.Lists.{has_id}
use Rattle.esm_registry.specs.Places.{list_of}
use Rattle.esm_registry.proofs.IndexChanges.{index_replaced, list_replaced}
use Rattle.esm_registry.proofs.IndexFacts.{found_none}
use Rattle.esm_registry.proofs.ListFacts.{replaced_none}
use Rattle.esm_registry.proofs.places.replace.Goals as goal

pub returns-in-None-clause-list : goal.returns-in-None-clause-list
returns-in-None-clause-list c = λ next index.
    sym (replaced_none (has_id c.args.mapping.id) c.args.mapping (list_of c.args.mappings.now)
    (found_none c.args.places.now next c.args.mapping.id c.args.mappings.now.entries index.placed (sym c.in-None.ensures.value)))

pub returns-in-Some-clause-index : goal.returns-in-Some-clause-index
returns-in-Some-clause-index c = λ next index.
    let h = index.found c.args.mapping.id c.in-Some.place.now (sym c.in-Some.ensures.value) in
    let there : IsSome (get nat_cmp c.args.mappings.now c.in-Some.place.now) = subst IsSome (sym h.there) refl in
    index_replaced c.args.mappings.now c.put.new.mappings c.args.places.now next c.in-Some.place.now c.args.mapping index
    (sym c.in-Some.ensures.value) c.requires.given (c.put.ensures.entries there) (c.put.ensures.updates there) (c.put.ensures.ordered there)

pub returns-in-Some-clause-list : goal.returns-in-Some-clause-list
returns-in-Some-clause-list c = λ next index.
    let h = index.found c.args.mapping.id c.in-Some.place.now (sym c.in-Some.ensures.value) in
    let there : IsSome (get nat_cmp c.args.mappings.now c.in-Some.place.now) = subst IsSome (sym h.there) refl in
    list_replaced c.args.mappings.now c.put.new.mappings c.args.places.now next c.args.mapping.id c.in-Some.place.now c.args.mapping index
    (sym c.in-Some.ensures.value) (c.put.ensures.entries there)
