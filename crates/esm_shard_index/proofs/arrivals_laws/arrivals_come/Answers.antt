use Rattle.esm_shard_index.proofs.ArrivalSteps.{arrivals_come}
use Rattle.esm_shard_index.proofs.arrivals_laws.arrivals_come.Goals as goal

pub returns : goal.returns
returns c = arrivals_come
