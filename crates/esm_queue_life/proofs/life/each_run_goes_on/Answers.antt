use Rattle.esm_queue_life.proofs.Lives.{goes_on}
use Rattle.esm_queue_life.proofs.life.each_run_goes_on.Goals as goal

pub returns : goal.returns
returns c = goes_on c.read_again.ensures
