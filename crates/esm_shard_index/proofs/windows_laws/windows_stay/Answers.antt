use Rattle.esm_shard_index.proofs.WindowSteps.{windows_stay}
use Rattle.esm_shard_index.proofs.windows_laws.windows_stay.Goals as goal

pub returns : goal.returns
returns c = windows_stay
