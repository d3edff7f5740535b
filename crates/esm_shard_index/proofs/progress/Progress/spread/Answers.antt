use Rattle.std.proofs.Common.{arith}
use Rattle.esm_shard_index.proofs.Tallies.{number_split, number_within}
use Rattle.esm_shard_index.proofs.progress.Progress.spread.Goals as goal

pub total-requires : goal.total-requires
total-requires c = omega (arith, number_within c.self.inside.fated.items)

pub overflow_sub-result : goal.overflow_sub-result
overflow_sub-result c = omega (arith, number_split c.self.inside.fated.items)

pub returns : goal.returns
returns c = rw (← c.self.view_is) (omega (arith, number_split c.self.inside.fated.items))
