use Rattle.esm_shard_index.proofs.CallingSteps.{call_begins}
use Rattle.esm_shard_index.proofs.callings_laws.call_begins.Goals as goal

pub returns : goal.returns
returns c = call_begins
