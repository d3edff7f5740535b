use Rattle.esm_shard_index.proofs.CallingSteps.{callings_come}
use Rattle.esm_shard_index.proofs.callings_laws.callings_come.Goals as goal

pub returns : goal.returns
returns c = callings_come
