use Rattle.esm_queue_life.proofs.UnderRedrives.{is_under}
use Rattle.esm_queue_life.proofs.life.life_is_under_redrives.Goals as goal

pub returns : goal.returns
returns c = is_under c.read_again.ensures
