use Rattle.esm_redrive_life.proofs.Lives.{good_in}
use Rattle.esm_redrive_life.proofs.life.content_is_good.Goals as goal

pub returns : goal.returns
returns c = good_in c.content_stays_good.ensures
