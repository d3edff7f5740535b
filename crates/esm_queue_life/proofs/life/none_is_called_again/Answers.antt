use Rattle.esm_queue_life.proofs.Lives.{not_called}
use Rattle.esm_queue_life.proofs.life.none_is_called_again.Goals as goal

pub returns : goal.returns
returns c = not_called
