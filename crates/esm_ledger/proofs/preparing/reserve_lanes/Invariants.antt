use Rattle.std.proofs.Common.{◌≡◌, ℕ, ◌<◌, ◌≤◌, length}
use Rattle.esm_shard_index.specs.LaneView.{lane_in}
use Rattle.esm_ledger.specs.Arriving.{landing_count}
use Rattle.esm_ledger.proofs.preparing.reserve_lanes.Given as goal

abbrev pub invariant-loop-lane : goal.invariant-loop-lane
invariant-loop-lane l = record {
  lanes : length l.lanes.lanes ≡ length l.initial.lanes.lanes;
  pieces : (k : ℕ) → (lane_in l.lanes k).kept.pieces ≡ (lane_in l.initial.lanes k).kept.pieces;
  states : (k : ℕ) → (lane_in l.lanes k).state ≡ (lane_in l.initial.lanes k).state;
  splits : (k : ℕ) → (lane_in l.initial.lanes k).kept.splits ≤ (lane_in l.lanes k).kept.splits;
  done : (k : ℕ) → k < l.lane → landing_count k l.landings ≤ (lane_in l.lanes k).kept.adds;
}
