use Rattle.esm_shard_index.proofs.CallingSteps.{call_ends}
use Rattle.esm_shard_index.proofs.callings_laws.call_ends.Goals as goal

pub returns : goal.returns
returns c = call_ends
