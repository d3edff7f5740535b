use Rattle.esm_ledger.proofs.Fitting.{tells}
use Rattle.esm_ledger.proofs.shard_laws.shard_tells.Goals as goal

pub returns : goal.returns
returns c = tells
