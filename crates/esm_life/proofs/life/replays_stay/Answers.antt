use Rattle.esm_life.proofs.ReplayLives.{replays_stay}
use Rattle.esm_life.proofs.life.replays_stay.Goals as goal

pub returns : goal.returns
returns c = replays_stay c.replay_laws_hold.ensures
