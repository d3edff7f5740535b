use Rattle.esm_registry.proofs.registry.Registry.down.Goals as goal

pub returns-clause-kept : goal.returns-clause-kept
returns-clause-kept g c = rw (← c.self.view_is) (record { said = c.self.invariant.said; distinct = c.created.ensures.distinct; given = c.created.ensures.given })
