use Rattle.esm_ledger.proofs.Staying.{shard_over}
use Rattle.esm_ledger.proofs.shard_laws.shard_over_more_records.Goals as goal

pub returns : goal.returns
returns c = shard_over
