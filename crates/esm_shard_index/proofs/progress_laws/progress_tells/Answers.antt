use Rattle.esm_shard_index.proofs.ProgressSteps.{progress_tells}
use Rattle.esm_shard_index.proofs.progress_laws.progress_tells.Goals as goal

pub returns : goal.returns
returns c = progress_tells
