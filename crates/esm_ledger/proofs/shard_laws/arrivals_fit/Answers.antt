use Rattle.esm_ledger.proofs.Fitting.{records_may_come}
use Rattle.esm_ledger.proofs.shard_laws.arrivals_fit.Goals as goal

pub returns : goal.returns
returns c = records_may_come
