use Rattle.esm_redrive_life.proofs.Lives.{deletion_stays_in}
use Rattle.esm_redrive_life.proofs.life.deletion_stays.Goals as goal

pub returns : goal.returns
returns c = deletion_stays_in c.deletions_are_recorded.ensures
