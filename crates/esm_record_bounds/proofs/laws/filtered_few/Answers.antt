use Rattle.esm_record_bounds.proofs.Filtering as filtering
use Rattle.esm_record_bounds.proofs.laws.filtered_few.Goals as goal

pub returns : goal.returns
returns c = filtering.filtered_few
