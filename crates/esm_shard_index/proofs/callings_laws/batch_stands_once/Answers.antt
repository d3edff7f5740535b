use Rattle.esm_shard_index.proofs.CallingSteps.{batch_stands_once}
use Rattle.esm_shard_index.proofs.callings_laws.batch_stands_once.Goals as goal

pub returns : goal.returns
returns c = batch_stands_once
