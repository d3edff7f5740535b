use Rattle.esm_life.proofs.Lives.{checkpoint_is}
use Rattle.esm_life.proofs.life.recorded_checkpoint_is_the_runs.Goals as goal

pub returns : goal.returns
returns c = checkpoint_is
