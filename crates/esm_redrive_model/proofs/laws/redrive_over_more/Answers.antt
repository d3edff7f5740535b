use Rattle.esm_redrive_model.proofs.MoreRedrive.{redrive_over_more_in}
use Rattle.esm_redrive_model.proofs.laws.redrive_over_more.Goals as goal

pub returns : goal.returns
returns c = redrive_over_more_in
