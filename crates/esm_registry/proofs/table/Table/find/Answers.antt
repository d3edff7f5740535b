use Rattle.std.proofs.Common.{◌∙◌, sym}
use Rattle.esm_registry.proofs.IndexFacts.{found_none, found_same}
use Rattle.esm_registry.proofs.table.Table.find.Goals as goal

pub returns-in-None : goal.returns-in-None
returns-in-None c =
    let t = c.self.inside in
    rw (← c.self.view_is) (sym (found_none t.places t.next c.args.id.now t.mappings.entries c.self.invariant.index.placed (sym c.in-None.ensures.value)))

pub returns-in-Some : goal.returns-in-Some
returns-in-Some c =
    let t = c.self.inside in
    rw (← c.self.view_is) (c.get-in-Some.ensures.value
    ∙ sym (found_same t.mappings t.places t.next c.args.id.now c.in-Some.place.now c.self.invariant.index (sym c.in-Some.ensures.value)))
