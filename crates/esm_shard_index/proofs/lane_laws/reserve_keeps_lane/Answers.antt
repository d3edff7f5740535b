use Rattle.esm_shard_index.proofs.LaneReads.{lane_reserved}
use Rattle.esm_shard_index.proofs.lane_laws.reserve_keeps_lane.Goals as goal

pub returns : goal.returns
returns c = lane_reserved
