use Rattle.esm_model.proofs.Histories.{order_of_legal}
use Rattle.esm_model.proofs.laws.order_per_key.Goals as goal

pub returns : goal.returns
returns c = order_of_legal
