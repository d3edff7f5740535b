use Rattle.esm_model.proofs.Earning.{earned_of_legal}
use Rattle.esm_model.proofs.laws.fate_is_earned.Goals as goal

pub returns : goal.returns
returns c = earned_of_legal
