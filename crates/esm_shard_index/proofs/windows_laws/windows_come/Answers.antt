use Rattle.esm_shard_index.proofs.WindowSteps.{windows_come}
use Rattle.esm_shard_index.proofs.windows_laws.windows_come.Goals as goal

pub returns : goal.returns
returns c = windows_come
