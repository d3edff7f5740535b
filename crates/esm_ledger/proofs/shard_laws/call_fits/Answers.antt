use Rattle.esm_ledger.proofs.Fitting.{call_may_begin}
use Rattle.esm_ledger.proofs.shard_laws.call_fits.Goals as goal

pub returns : goal.returns
returns c = call_may_begin
