use Rattle.esm_ledger.proofs.Fitting.{gift_may_come}
use Rattle.esm_ledger.proofs.shard_laws.gift_fits.Goals as goal

pub returns : goal.returns
returns c = gift_may_come
