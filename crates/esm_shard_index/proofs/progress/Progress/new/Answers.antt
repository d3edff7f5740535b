use Rattle.std.proofs.Common.{refl, arith}
use Rattle.esm_shard_index.proofs.Tallies.{total_none}
use Rattle.esm_shard_index.proofs.progress.Progress.new.Goals as goal

pub invariant_of-result : goal.invariant_of-result
invariant_of-result c = rw c.new.ensures.items (record { front = refl; all = total_none c.none.result c.none.ensures; few = omega arith })
