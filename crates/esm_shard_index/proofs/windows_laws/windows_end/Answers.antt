use Rattle.esm_shard_index.proofs.WindowSteps.{windows_end}
use Rattle.esm_shard_index.proofs.windows_laws.windows_end.Goals as goal

pub returns : goal.returns
returns c = windows_end
