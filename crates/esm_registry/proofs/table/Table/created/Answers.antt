use Rattle.esm_registry.proofs.IndexFacts.{all_given, ids_distinct}
use Rattle.esm_registry.proofs.table.Table.created.Goals as goal

pub returns-clause-distinct : goal.returns-clause-distinct
returns-clause-distinct c =
    let t = c.self.inside in
    rw (← c.self.view_is) (ids_distinct t.places t.next t.mappings.entries c.self.invariant.index.placed c.self.invariant.index.ordered)

pub returns-clause-given : goal.returns-clause-given
returns-clause-given c =
    let t = c.self.inside in
    rw (← c.self.view_is) (all_given t.places t.next t.mappings.entries c.self.invariant.index.placed)
