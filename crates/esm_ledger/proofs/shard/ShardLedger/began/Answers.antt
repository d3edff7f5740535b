use Rattle.esm_ledger.proofs.Shards.{shard_began}
use Rattle.esm_ledger.proofs.shard.ShardLedger.began.Goals as goal

pub returns-clause-kept : goal.returns-clause-kept
returns-clause-kept c = λ s h m.
    shard_began s h c.args.self.now c.began.new.self c.begin.new.self c.args.lane c.args.places.now c.args.closing m
    c.began.ensures.len c.began.ensures.calls c.began.ensures.responses c.begin.ensures.lane c.begin.ensures.others c.begin.ensures.lanes
