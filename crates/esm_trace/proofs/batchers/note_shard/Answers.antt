use Rattle.esm_trace.proofs.Order.{shard_added, shard_known}
use Rattle.esm_trace.proofs.batchers.note_shard.Goals as goal

pub returns-in_ok-push : goal.returns-in_ok-push
returns-in_ok-push c = shard_added c.args.shards.now.items c.deref.result.now c.push.new.self.items c.args.entry.now c.in-Came.shard c.in-Came.first c.in-Came.count c.in-Came.moment c.contains.result
    c.deref.ensures.value c.in-Came.is c.contains.ensures.value c.if-not-contains.true c.in_ok-push.ensures.items

pub returns-else-not-contains : goal.returns-else-not-contains
returns-else-not-contains c = shard_known c.args.shards.now.items c.deref.result.now c.args.entry.now c.in-Came.shard c.in-Came.first c.in-Came.count c.in-Came.moment c.contains.result
    c.deref.ensures.value c.in-Came.is c.contains.ensures.value c.if-not-contains.false
