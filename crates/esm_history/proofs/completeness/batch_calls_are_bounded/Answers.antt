use Rattle.esm_history.proofs.Charges.{batches_bounded}
use Rattle.esm_history.proofs.completeness.batch_calls_are_bounded.Goals as goal

pub returns : goal.returns
returns c = batches_bounded
