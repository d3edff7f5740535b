use Rattle.std.proofs.Common.{◌≡◌}
use Rattle.std.specs.Prelude.{replicate}
use Rattle.esm_lanes.specs.Piece.{empty_lane}
use Rattle.esm_lanes.proofs.lanes.Lanes.new.Given as goal

abbrev pub invariant-loop-made : goal.invariant-loop-made
invariant-loop-made l = l.queues.items ≡ replicate l._made empty_lane
