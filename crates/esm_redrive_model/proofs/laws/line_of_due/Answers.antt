use Rattle.esm_redrive_model.proofs.MovedByLine.{line_of_due_in}
use Rattle.esm_redrive_model.proofs.laws.line_of_due.Goals as goal

pub returns : goal.returns
returns c = line_of_due_in
