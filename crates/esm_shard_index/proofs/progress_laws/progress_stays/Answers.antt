use Rattle.esm_shard_index.proofs.ProgressSteps.{progress_stays}
use Rattle.esm_shard_index.proofs.progress_laws.progress_stays.Goals as goal

pub returns : goal.returns
returns c = progress_stays
