use Rattle.esm_shard_index.proofs.LaneReads.{lane_bounded}
use Rattle.esm_shard_index.proofs.lane_laws.lane_is_bounded.Goals as goal

pub returns : goal.returns
returns c = lane_bounded
