use Rattle.esm_shard_index.proofs.WindowSteps.{windows_close}
use Rattle.esm_shard_index.proofs.windows_laws.windows_close.Goals as goal

pub returns : goal.returns
returns c = windows_close
