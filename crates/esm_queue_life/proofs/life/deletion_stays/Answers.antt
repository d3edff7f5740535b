use Rattle.esm_queue_life.proofs.Lives.{stays}
use Rattle.esm_queue_life.proofs.life.deletion_stays.Goals as goal

pub returns : goal.returns
returns c = stays c.read_again.ensures
