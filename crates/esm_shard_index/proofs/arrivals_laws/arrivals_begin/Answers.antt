use Rattle.esm_shard_index.proofs.ArrivalSteps.{arrivals_begin}
use Rattle.esm_shard_index.proofs.arrivals_laws.arrivals_begin.Goals as goal

pub returns : goal.returns
returns c = arrivals_begin
