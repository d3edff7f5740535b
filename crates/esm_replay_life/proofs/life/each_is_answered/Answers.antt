use Rattle.esm_replay_life.proofs.Lives.{answered}
use Rattle.esm_replay_life.proofs.life.each_is_answered.Goals as goal

pub returns : goal.returns
returns c = answered
