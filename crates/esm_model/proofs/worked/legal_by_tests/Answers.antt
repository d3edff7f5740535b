use Rattle.esm_model.proofs.WorkedLegal as facts
use Rattle.esm_model.proofs.worked.legal_by_tests.Goals as goal

pub returns : goal.returns
returns c = facts.is_legal_sound
