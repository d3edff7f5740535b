use Rattle.esm_redrive_model.proofs.Lined.{leaves_moves_lined_in}
use Rattle.esm_redrive_model.proofs.laws.leaves_moves_lined.Goals as goal

pub returns : goal.returns
returns c = leaves_moves_lined_in
