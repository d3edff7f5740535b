use Rattle.esm_shard_index.proofs.LaneReads.{one_more_arrival}
use Rattle.esm_shard_index.proofs.lane_laws.arrivals_are_added.Goals as goal

pub returns : goal.returns
returns c = one_more_arrival
