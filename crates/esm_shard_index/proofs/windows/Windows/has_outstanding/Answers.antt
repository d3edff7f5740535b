use Rattle.std.proofs.Common.{sym, ◌∙◌}
use Rattle.esm_shard_index.proofs.WindowLeast.{some_state, no_state}
use Rattle.esm_shard_index.proofs.windows.Windows.has_outstanding.Goals as goal

pub returns-clause-some : goal.returns-clause-some
returns-clause-some c = rw (← c.self.view_is) (λ is. some_state c.self.inside.states.entries c.has_state.ensures.ordered (sym c.has_state.ensures.some ∙ is))

pub returns-clause-none : goal.returns-clause-none
returns-clause-none c = rw (← c.self.view_is) (λ is. no_state c.self.inside.states.entries (sym c.has_state.ensures.some ∙ is))
