use Rattle.esm_model.proofs.Counts.{counted_of_legal}
use Rattle.esm_model.proofs.laws.every_record_counted.Goals as goal

pub returns : goal.returns
returns c = counted_of_legal
