use Rattle.esm_life.proofs.Lives.{earned}
use Rattle.esm_life.proofs.life.each_is_earned.Goals as goal

pub returns : goal.returns
returns c = earned
