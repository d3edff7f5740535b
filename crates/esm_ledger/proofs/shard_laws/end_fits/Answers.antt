use Rattle.esm_ledger.proofs.Fitting.{end_may_come}
use Rattle.esm_ledger.proofs.shard_laws.end_fits.Goals as goal

pub returns : goal.returns
returns c = end_may_come
