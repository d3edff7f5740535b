use Rattle.esm_queue_life.proofs.Lives.{in_order}
use Rattle.esm_queue_life.proofs.life.groups_in_order.Goals as goal

pub returns : goal.returns
returns c = in_order
