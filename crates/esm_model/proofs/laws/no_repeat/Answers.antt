use Rattle.esm_model.proofs.Histories.{no_repeat_of_legal}
use Rattle.esm_model.proofs.laws.no_repeat.Goals as goal

pub returns : goal.returns
returns c = no_repeat_of_legal
