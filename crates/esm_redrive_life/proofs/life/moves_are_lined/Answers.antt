use Rattle.esm_redrive_life.proofs.Lives.{lined_in}
use Rattle.esm_redrive_life.proofs.life.moves_are_lined.Goals as goal

pub returns : goal.returns
returns c = lined_in c.deletions_are_recorded.ensures c.leaves_moves_lined.ensures c.lines_go_on.ensures
