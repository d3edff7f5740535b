use Rattle.esm_redrive_model.proofs.Ends.{each_has_one_end_in}
use Rattle.esm_redrive_model.proofs.laws.each_has_one_end.Goals as goal

pub returns : goal.returns
returns c = each_has_one_end_in
