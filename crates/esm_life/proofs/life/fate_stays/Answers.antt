use Rattle.esm_life.proofs.Lives.{stays}
use Rattle.esm_life.proofs.life.fate_stays.Goals as goal

pub returns : goal.returns
returns c = stays c.replay_laws_hold.ensures
