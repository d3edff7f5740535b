use Rattle.esm_shard_index.proofs.LaneReads.{arrivals_fit}
use Rattle.esm_shard_index.proofs.lane_laws.arrivals_do_fit.Goals as goal

pub returns : goal.returns
returns c = arrivals_fit
