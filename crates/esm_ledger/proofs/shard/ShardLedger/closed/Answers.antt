use Rattle.esm_ledger.proofs.Shards.{shard_closed}
use Rattle.esm_ledger.proofs.shard.ShardLedger.closed.Goals as goal

pub returns-clause-kept : goal.returns-clause-kept
returns-clause-kept c = λ s h lane m.
    shard_closed s h c.args.self.now c.closed.new.self lane c.args.window m
    c.closed.ensures.states c.closed.ensures.tries c.closed.ensures.opened c.closed.ensures.last
