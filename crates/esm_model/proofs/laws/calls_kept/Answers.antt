use Rattle.esm_model.proofs.CallsMade.{calls_go_on}
use Rattle.esm_model.proofs.laws.calls_kept.Goals as goal

pub returns : goal.returns
returns c = calls_go_on
