use Rattle.esm_life.proofs.FatesOnce.{once}
use Rattle.esm_life.proofs.life.each_fate_once.Goals as goal

pub returns : goal.returns
returns c = once c.replay_laws_hold.ensures
