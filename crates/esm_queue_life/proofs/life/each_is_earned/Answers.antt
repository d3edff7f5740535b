use Rattle.esm_queue_life.proofs.Lives.{earned}
use Rattle.esm_queue_life.proofs.life.each_is_earned.Goals as goal

pub returns : goal.returns
returns c = earned c.read_again.ensures
