use Rattle.esm_model.proofs.Coming.{come_of_legal}
use Rattle.esm_model.proofs.laws.has_come_below.Goals as goal

pub returns : goal.returns
returns c = come_of_legal
