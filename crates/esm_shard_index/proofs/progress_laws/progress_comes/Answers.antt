use Rattle.esm_shard_index.proofs.ProgressSteps.{progress_comes}
use Rattle.esm_shard_index.proofs.progress_laws.progress_comes.Goals as goal

pub returns : goal.returns
returns c = progress_comes
