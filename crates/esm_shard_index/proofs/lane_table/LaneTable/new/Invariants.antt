use Rattle.std.proofs.Common.{◌≡◌}
use Rattle.std.specs.Prelude.{replicate}
use Rattle.esm_shard_index.specs.LaneView.{idle}
use Rattle.esm_shard_index.proofs.lane_table.LaneTable.new.Given as goal

abbrev pub invariant-loop-made : goal.invariant-loop-made
invariant-loop-made l = l.states.items ≡ replicate l._made idle
