use Rattle.esm_shard_index.proofs.ArrivalSteps.{arrivals_stay}
use Rattle.esm_shard_index.proofs.arrivals_laws.arrivals_stay.Goals as goal

pub returns : goal.returns
returns c = arrivals_stay
