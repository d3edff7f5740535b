use Rattle.esm_life.proofs.ReplayLives.{is_under_replays}
use Rattle.esm_life.proofs.replays.life_is_under_replays.Goals as goal

pub returns : goal.returns
returns c = is_under_replays c.replay_laws_hold.ensures
