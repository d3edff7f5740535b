use Rattle.esm_shard_index.proofs.LaneReads.{lane_call_tries}
use Rattle.esm_shard_index.proofs.lane_laws.call_has_tries.Goals as goal

pub returns : goal.returns
returns c = lane_call_tries
