use Rattle.esm_model.proofs.Counts.{checkpoint_longest}
use Rattle.esm_model.proofs.laws.checkpoint_is_longest.Goals as goal

pub returns : goal.returns
returns c = checkpoint_longest
