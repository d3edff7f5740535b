use Rattle.esm_ledger.proofs.Staying.{shard_stays}
use Rattle.esm_ledger.proofs.shard_laws.shard_stays.Goals as goal

pub returns : goal.returns
returns c = shard_stays
