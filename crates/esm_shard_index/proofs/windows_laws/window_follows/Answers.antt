use Rattle.esm_shard_index.proofs.WindowSteps.{window_follows}
use Rattle.esm_shard_index.proofs.windows_laws.window_follows.Goals as goal

pub returns : goal.returns
returns c = window_follows
