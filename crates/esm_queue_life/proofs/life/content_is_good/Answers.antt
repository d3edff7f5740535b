use Rattle.esm_queue_life.proofs.Lives.{good}
use Rattle.esm_queue_life.proofs.life.content_is_good.Goals as goal

pub returns : goal.returns
returns c = good c.read_again.ensures
