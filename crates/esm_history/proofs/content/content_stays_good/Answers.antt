use Rattle.esm_history.proofs.GoodContent.{stays_good}
use Rattle.esm_history.proofs.content.content_stays_good.Goals as goal

pub returns : goal.returns
returns c = stays_good
