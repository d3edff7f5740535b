use Rattle.esm_redrive_model.proofs.Moves.{received_at_most_in}
use Rattle.esm_redrive_model.proofs.laws.received_at_most.Goals as goal

pub returns : goal.returns
returns c = received_at_most_in
