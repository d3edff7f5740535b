use Rattle.esm_life.proofs.ReplayLives.{not_replayed_again}
use Rattle.esm_life.proofs.life.none_is_replayed_again.Goals as goal

pub returns : goal.returns
returns c = not_replayed_again c.replay_laws_hold.ensures
