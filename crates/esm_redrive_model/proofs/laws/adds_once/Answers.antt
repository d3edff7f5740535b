use Rattle.esm_redrive_model.proofs.MovedByLine.{adds_once_in}
use Rattle.esm_redrive_model.proofs.laws.adds_once.Goals as goal

pub returns : goal.returns
returns c = adds_once_in
