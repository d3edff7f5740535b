use Rattle.esm_shard_index.proofs.LaneOver.{entry_over}
use Rattle.esm_shard_index.proofs.lane_laws.entry_over_more_records.Goals as goal

pub returns : goal.returns
returns c = entry_over
