use Rattle.esm_record_bounds.proofs.Telling as telling
use Rattle.esm_record_bounds.proofs.laws.told_within.Goals as goal

pub returns : goal.returns
returns c = telling.told_within
