use Rattle.std.proofs.Common.{arith}
use Rattle.esm_shard_index.proofs.Tallies.{front_more, front_ends, front_within}
use Rattle.esm_shard_index.proofs.progress.frontier_from.Goals as goal

pub loop-frontier-preserved : goal.loop-frontier-preserved
loop-frontier-preserved c = front_more c.args.fated.now c.loop-frontier.frontier c.loop-frontier.invariant c.if-fated-frontier.true

pub returns-else-fated-frontier : goal.returns-else-fated-frontier
returns-else-fated-frontier c = front_ends c.args.fated.now c.loop-frontier.frontier c.loop-frontier.invariant c.if-fated-frontier.false

pub returns-after-loop-frontier : goal.returns-after-loop-frontier
returns-after-loop-frontier c = omega (arith, front_within c.args.fated.now)
