use Rattle.esm_input.proofs.Within.{handed_within}
use Rattle.esm_input.proofs.laws.handed_is_within.Goals as goal

pub returns : goal.returns
returns c = handed_within
