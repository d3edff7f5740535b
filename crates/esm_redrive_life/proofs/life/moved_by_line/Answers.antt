use Rattle.esm_redrive_life.proofs.Lives.{where_in}
use Rattle.esm_redrive_life.proofs.life.moved_by_line.Goals as goal

pub returns : goal.returns
returns c = where_in c.deletions_are_recorded.ensures c.leaves_moves_lined.ensures c.lines_go_on.ensures c.moved_where_lined.ensures
