use Rattle.esm_redrive_life.proofs.Lives.{moved_in}
use Rattle.esm_redrive_life.proofs.life.moved_when_received.Goals as goal

pub returns : goal.returns
returns c = moved_in c.leaves_moves_lined.ensures c.lined_after_receives.ensures c.received_at_most.ensures
