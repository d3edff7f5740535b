use Rattle.esm_shard_index.proofs.WindowSteps.{windows_rise}
use Rattle.esm_shard_index.proofs.windows_laws.windows_rise.Goals as goal

pub returns : goal.returns
returns c = windows_rise
