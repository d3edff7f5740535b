use Rattle.esm_redrive_model.proofs.Moves.{moved_after_receives_in}
use Rattle.esm_redrive_model.proofs.laws.moved_after_receives.Goals as goal

pub returns : goal.returns
returns c = moved_after_receives_in
