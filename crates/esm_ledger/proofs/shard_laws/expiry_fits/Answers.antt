use Rattle.esm_ledger.proofs.Fitting.{expiry_may_come}
use Rattle.esm_ledger.proofs.shard_laws.expiry_fits.Goals as goal

pub returns : goal.returns
returns c = expiry_may_come
