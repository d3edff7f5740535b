use Rattle.esm_model.proofs.Fits.{batch_longest}
use Rattle.esm_model.proofs.laws.batch_is_longest.Goals as goal

pub returns : goal.returns
returns c = batch_longest
