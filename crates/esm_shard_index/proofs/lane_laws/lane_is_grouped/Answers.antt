use Rattle.esm_shard_index.proofs.LaneReads.{lane_grouped}
use Rattle.esm_shard_index.proofs.lane_laws.lane_is_grouped.Goals as goal

pub returns : goal.returns
returns c = lane_grouped
