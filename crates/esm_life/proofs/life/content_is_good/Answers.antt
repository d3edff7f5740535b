use Rattle.esm_life.proofs.ReplayLives.{good}
use Rattle.esm_life.proofs.life.content_is_good.Goals as goal

pub returns : goal.returns
returns c = good c.replay_laws_hold.ensures
