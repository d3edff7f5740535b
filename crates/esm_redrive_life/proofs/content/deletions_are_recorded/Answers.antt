use Rattle.esm_redrive_life.proofs.Recorded.{recorded}
use Rattle.esm_redrive_life.proofs.Rising.{redrive_tells}
use Rattle.esm_redrive_life.proofs.content.deletions_are_recorded.Goals as goal

pub returns : goal.returns
returns c = λ s h old opened are legal. recorded c.read_again.ensures s.queue h old opened are (redrive_tells s h legal)
