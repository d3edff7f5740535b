use Rattle.esm_life.proofs.Lives.{checkpoint_stays}
use Rattle.esm_life.proofs.life.recorded_checkpoint_stays.Goals as goal

pub returns : goal.returns
returns c = checkpoint_stays c.replay_laws_hold.ensures
