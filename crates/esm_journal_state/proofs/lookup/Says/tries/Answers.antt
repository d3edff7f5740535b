use Rattle.std.proofs.Common.{sym, ◌∙◌}
use Rattle.esm_journal_state.proofs.Finding.{tries_found}
use Rattle.esm_journal_state.proofs.lookup.Says.tries.Goals as goal

pub returns-in-None : goal.returns-in-None
returns-in-None c = rw (← c.self.view_is) (c.in-None.ensures.value ∙ sym (tries_found c.self.inside.tries.entries c.args.shard c.args.place))

pub returns-in-Some : goal.returns-in-Some
returns-in-Some c = rw (← c.self.view_is) (c.in-Some.ensures.value ∙ sym (tries_found c.self.inside.tries.entries c.args.shard c.args.place))
