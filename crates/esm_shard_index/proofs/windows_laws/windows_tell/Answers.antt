use Rattle.esm_shard_index.proofs.WindowSteps.{windows_tell}
use Rattle.esm_shard_index.proofs.windows_laws.windows_tell.Goals as goal

pub returns : goal.returns
returns c = windows_tell
