use Rattle.esm_life.proofs.Lives.{in_order}
use Rattle.esm_life.proofs.life.keys_in_order.Goals as goal

pub returns : goal.returns
returns c = in_order
