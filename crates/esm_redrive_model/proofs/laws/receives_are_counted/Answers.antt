use Rattle.esm_redrive_model.proofs.Counted.{receives_are_counted_in}
use Rattle.esm_redrive_model.proofs.laws.receives_are_counted.Goals as goal

pub returns : goal.returns
returns c = receives_are_counted_in
