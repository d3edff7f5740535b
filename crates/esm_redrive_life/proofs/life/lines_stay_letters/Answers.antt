use Rattle.esm_redrive_life.proofs.Lives.{letters_in}
use Rattle.esm_redrive_life.proofs.life.lines_stay_letters.Goals as goal

pub returns : goal.returns
returns c = letters_in c.lines_go_on.ensures
