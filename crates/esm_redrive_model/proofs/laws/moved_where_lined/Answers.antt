use Rattle.esm_redrive_model.proofs.MovedByLine.{moved_where_lined_in}
use Rattle.esm_redrive_model.proofs.laws.moved_where_lined.Goals as goal

pub returns : goal.returns
returns c = moved_where_lined_in
