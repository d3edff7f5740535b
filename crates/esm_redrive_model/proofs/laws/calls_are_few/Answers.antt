use Rattle.esm_redrive_model.proofs.Calls.{calls_are_few_in}
use Rattle.esm_redrive_model.proofs.laws.calls_are_few.Goals as goal

pub returns : goal.returns
returns c = calls_are_few_in
