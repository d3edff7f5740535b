use Rattle.esm_redrive_life.proofs.Lives.{once_in}
use Rattle.esm_redrive_life.proofs.life.each_id_once.Goals as goal

pub returns : goal.returns
returns c = once_in c.adds_once.ensures c.lines_go_on.ensures
