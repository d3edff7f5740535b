use Rattle.esm_model.proofs.CallsMade.{end_logged}
use Rattle.esm_model.proofs.laws.answer_is_logged.Goals as goal

pub returns : goal.returns
returns c = end_logged
