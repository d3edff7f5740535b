use Rattle.esm_redrive_model.proofs.Moves.{moved_once_in}
use Rattle.esm_redrive_model.proofs.laws.moved_once.Goals as goal

pub returns : goal.returns
returns c = moved_once_in
