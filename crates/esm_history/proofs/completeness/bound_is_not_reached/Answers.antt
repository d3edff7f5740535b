use Rattle.esm_history.proofs.Bound.{within_bound}
use Rattle.esm_history.proofs.completeness.bound_is_not_reached.Goals as goal

pub returns : goal.returns
returns c = within_bound
