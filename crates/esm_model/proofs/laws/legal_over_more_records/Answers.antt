use Rattle.esm_model.proofs.Extended.{legal_over}
use Rattle.esm_model.proofs.laws.legal_over_more_records.Goals as goal

pub returns : goal.returns
returns c = legal_over
