use Rattle.esm_life.proofs.ReplayLives.{answered}
use Rattle.esm_life.proofs.life.each_replay_is_answered.Goals as goal

pub returns : goal.returns
returns c = answered c.replay_laws_hold.ensures
