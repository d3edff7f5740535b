use Rattle.esm_shard_index.proofs.LaneOver.{lane_over}
use Rattle.esm_shard_index.proofs.lane_laws.lane_over_more_records.Goals as goal

pub returns : goal.returns
returns c = lane_over
