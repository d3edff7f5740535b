use Rattle.esm_replay_life.proofs.Lives.{stay}
use Rattle.esm_replay_life.proofs.life.replays_stay.Goals as goal

pub returns : goal.returns
returns c = stay
