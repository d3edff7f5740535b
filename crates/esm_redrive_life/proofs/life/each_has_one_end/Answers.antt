use Rattle.esm_redrive_life.proofs.Lives.{one_end_in}
use Rattle.esm_redrive_life.proofs.life.each_has_one_end.Goals as goal

pub returns : goal.returns
returns c = one_end_in c.deletions_are_recorded.ensures c.leaves_moves_lined.ensures
