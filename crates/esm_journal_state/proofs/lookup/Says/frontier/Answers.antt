use Rattle.esm_journal_state.proofs.lookup.Says.frontier.Goals as goal

pub returns-clause-end : goal.returns-clause-end
returns-clause-end c = rw (← c.self.view_is) (rw c.number_at.ensures (c.self.invariant.end c.args.shard))
