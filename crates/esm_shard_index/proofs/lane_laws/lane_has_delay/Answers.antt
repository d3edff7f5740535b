use Rattle.esm_shard_index.proofs.LaneGroups.{delay_is}
use Rattle.esm_shard_index.proofs.lane_laws.lane_has_delay.Goals as goal

pub returns : goal.returns
returns c = delay_is
