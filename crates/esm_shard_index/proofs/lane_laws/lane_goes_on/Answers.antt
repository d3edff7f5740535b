use Rattle.esm_shard_index.proofs.LaneSteps.{lane_step}
use Rattle.esm_shard_index.proofs.lane_laws.lane_goes_on.Goals as goal

pub returns : goal.returns
returns c = lane_step
