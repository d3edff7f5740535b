use Rattle.esm_redrive_life.proofs.Lives.{received_in}
use Rattle.esm_redrive_life.proofs.life.lined_when_received.Goals as goal

pub returns : goal.returns
returns c = received_in c.lined_after_receives.ensures c.received_at_most.ensures
