use Rattle.std.proofs.Common.{◌≤◌, ◌-◌, length}
use Rattle.esm_shard_index.specs.Progress.{front_of}
use Rattle.esm_shard_index.proofs.progress.frontier_from.Given as goal

abbrev pub invariant-loop-frontier : goal.invariant-loop-frontier
invariant-loop-frontier l = l.frontier ≤ front_of l.fated

abbrev pub decreases-loop-frontier : goal.decreases-loop-frontier
decreases-loop-frontier l = length l.fated - l.frontier
