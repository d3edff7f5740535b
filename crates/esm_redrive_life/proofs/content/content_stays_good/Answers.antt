use Rattle.esm_redrive_life.proofs.Recorded.{stays_good}
use Rattle.esm_redrive_life.proofs.Rising.{redrive_tells}
use Rattle.esm_redrive_life.proofs.content.content_stays_good.Goals as goal

pub returns : goal.returns
returns c = λ s h old opened are legal. stays_good c.read_again.ensures s.queue h old opened are (redrive_tells s h legal)
