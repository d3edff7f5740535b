use Rattle.esm_shard_index.proofs.CallingSteps.{callings_begin}
use Rattle.esm_shard_index.proofs.callings_laws.callings_begin.Goals as goal

pub returns : goal.returns
returns c = callings_begin
