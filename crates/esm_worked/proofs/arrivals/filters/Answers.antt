use Rattle.esm_worked.proofs.WorkedArrivals as facts
use Rattle.esm_worked.proofs.arrivals.filters.Goals as goal

pub returns : goal.returns
returns c = facts.filtered_data
