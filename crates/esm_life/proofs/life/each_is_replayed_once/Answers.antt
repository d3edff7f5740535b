use Rattle.esm_life.proofs.ReplayLives.{replayed_once}
use Rattle.esm_life.proofs.life.each_is_replayed_once.Goals as goal

pub returns : goal.returns
returns c = replayed_once c.replay_laws_hold.ensures
