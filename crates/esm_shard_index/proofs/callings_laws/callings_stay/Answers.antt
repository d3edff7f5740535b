use Rattle.esm_shard_index.proofs.CallingSteps.{callings_stay}
use Rattle.esm_shard_index.proofs.callings_laws.callings_stay.Goals as goal

pub returns : goal.returns
returns c = callings_stay
