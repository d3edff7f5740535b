use Rattle.esm_redrive_life.proofs.Lives.{ordinary_goes}
use Rattle.esm_redrive_life.proofs.life.ordinary_run_goes_on.Goals as goal

pub returns : goal.returns
returns c = ordinary_goes c.read_again.ensures
