use Rattle.esm_replay_life.proofs.Lives.{good}
use Rattle.esm_replay_life.proofs.life.content_is_good.Goals as goal

pub returns : goal.returns
returns c = good
