use Rattle.esm_shard_index.proofs.LaneSteps.{lane_begins}
use Rattle.esm_shard_index.proofs.lane_laws.lane_begins.Goals as goal

pub returns : goal.returns
returns c = lane_begins
