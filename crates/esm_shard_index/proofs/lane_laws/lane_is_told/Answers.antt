use Rattle.esm_shard_index.proofs.LaneSteps.{lane_from_start}
use Rattle.esm_shard_index.proofs.lane_laws.lane_is_told.Goals as goal

pub returns : goal.returns
returns c = lane_from_start
