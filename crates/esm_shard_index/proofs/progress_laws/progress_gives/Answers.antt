use Rattle.esm_shard_index.proofs.ProgressSteps.{progress_gives}
use Rattle.esm_shard_index.proofs.progress_laws.progress_gives.Goals as goal

pub returns : goal.returns
returns c = progress_gives
