use Rattle.esm_redrive_model.proofs.Lined.{lined_after_receives_in}
use Rattle.esm_redrive_model.proofs.laws.lined_after_receives.Goals as goal

pub returns : goal.returns
returns c = lined_after_receives_in
