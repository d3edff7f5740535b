use Rattle.esm_shard_index.proofs.ProgressSteps.{progress_begins}
use Rattle.esm_shard_index.proofs.progress_laws.progress_begins.Goals as goal

pub returns : goal.returns
returns c = progress_begins
