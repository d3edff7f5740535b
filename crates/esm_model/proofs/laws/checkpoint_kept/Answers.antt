use Rattle.esm_model.proofs.Histories.{checkpoint_stays}
use Rattle.esm_model.proofs.laws.checkpoint_kept.Goals as goal

pub returns : goal.returns
returns c = checkpoint_stays
