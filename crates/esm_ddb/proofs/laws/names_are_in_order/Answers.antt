use Rattle.esm_ddb.proofs.NamesInOrder.{names_in_order}
use Rattle.esm_ddb.proofs.laws.names_are_in_order.Goals as goal

pub returns : goal.returns
returns c = names_in_order
