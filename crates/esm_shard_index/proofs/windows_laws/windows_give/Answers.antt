use Rattle.esm_shard_index.proofs.WindowSteps.{windows_give}
use Rattle.esm_shard_index.proofs.windows_laws.windows_give.Goals as goal

pub returns : goal.returns
returns c = windows_give
