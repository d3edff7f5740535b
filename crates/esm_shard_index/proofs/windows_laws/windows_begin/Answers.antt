use Rattle.esm_shard_index.proofs.WindowSteps.{windows_begin}
use Rattle.esm_shard_index.proofs.windows_laws.windows_begin.Goals as goal

pub returns : goal.returns
returns c = windows_begin
