use Rattle.std.proofs.Common.{◌≡◌, ℕ, ◌+◌, ◌<◌, ◌≤◌, length, drop}
use Rattle.esm_lanes.specs.Piece.{open_places}
use Rattle.esm_shard_index.specs.LaneView.{lane_in}
use Rattle.esm_ledger.specs.Arriving.{landing_count, landed}
use Rattle.esm_ledger.proofs.shard_steps.land.Given as goal

abbrev pub invariant-loop-landing : goal.invariant-loop-landing
invariant-loop-landing l = record {
  place : l.place ≡ l.initial.place + l.landing-index;
  lanes : length l.lanes.lanes ≡ length l.initial.lanes.lanes;
  landed : (k : ℕ) → landed k l.place (drop l.landing-index l.landings) (lane_in l.lanes k) ≡ landed k l.initial.place l.landings (lane_in l.initial.lanes k);
  room : (k : ℕ) → k < length l.lanes.lanes → landing_count k (drop l.landing-index l.landings) ≤ (lane_in l.lanes k).kept.adds;
  few : (k : ℕ) → k < length l.lanes.lanes → length (open_places (lane_in l.lanes k).kept.pieces) + length (drop l.landing-index l.landings) ≤ 4294967295;
}
