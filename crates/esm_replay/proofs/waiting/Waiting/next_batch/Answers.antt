use Rattle.esm_replay.proofs.Fronts.{next_is}
use Rattle.esm_replay.proofs.waiting.Waiting.next_batch.Goals as goal

pub returns-in_ok-batch-in-Some-clause-call : goal.returns-in_ok-batch-in-Some-clause-call
returns-in_ok-batch-in-Some-clause-call c = λ s is all.
    next_is s c.args.config.now c.args.records.now c.in-Some.piece.now c.args.self.now.pieces c.shard.result c.named.result.now c.in_ok-batch-in-Some.batch c.shard.ensures c.named.ensures c.in-Some.ensures.some is all (c.in_ok-batch-in-Some.ensures.call s)
