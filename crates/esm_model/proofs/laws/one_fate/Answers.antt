use Rattle.esm_model.proofs.Histories.{one_of_legal}
use Rattle.esm_model.proofs.laws.one_fate.Goals as goal

pub returns : goal.returns
returns c = one_of_legal
