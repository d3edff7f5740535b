use Rattle.esm_history.proofs.Bound.{bounded}
use Rattle.esm_history.proofs.completeness.calls_are_bounded.Goals as goal

pub returns : goal.returns
returns c = bounded
