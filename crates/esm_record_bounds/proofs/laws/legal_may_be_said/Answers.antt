use Rattle.esm_record_bounds.proofs.Saying.{all_said}
use Rattle.esm_record_bounds.proofs.laws.legal_may_be_said.Goals as goal

pub returns : goal.returns
returns c = all_said
