use Rattle.std.proofs.Common.{length, ap, arith}
use Rattle.std.proofs.lemmas.List.{length-replicate}
use Rattle.esm_lanes.specs.Piece.{empty_lane}
use Rattle.esm_shard_index.specs.LaneView.{idle}
use Rattle.esm_shard_index.proofs.lane_table.LaneTable.new.Goals as goal

pub invariant_of-result : goal.invariant_of-result
invariant_of-result c = omega (arith, ap length c.in_ok-kept.ensures, ap length c.loop-made.invariant, length-replicate c.args.lanes empty_lane, length-replicate c.loop-made._made idle)
