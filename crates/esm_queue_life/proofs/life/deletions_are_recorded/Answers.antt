use Rattle.esm_queue_life.proofs.Lives.{all_recorded}
use Rattle.esm_queue_life.proofs.life.deletions_are_recorded.Goals as goal

pub returns : goal.returns
returns c = all_recorded c.read_again.ensures
