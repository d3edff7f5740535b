use Rattle.esm_queue_life.proofs.Lives.{once}
use Rattle.esm_queue_life.proofs.life.each_deleted_once.Goals as goal

pub returns : goal.returns
returns c = once c.read_again.ensures
