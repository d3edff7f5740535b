use Rattle.esm_redrive_life.proofs.Lives.{same_goes}
use Rattle.esm_redrive_life.proofs.life.compaction_goes_on.Goals as goal

pub returns : goal.returns
returns c = same_goes
