use Rattle.esm_record_bounds.proofs.Fitting.{fit_of_legal}
use Rattle.esm_record_bounds.proofs.laws.states_within.Goals as goal

pub returns : goal.returns
returns c = λ s h n w text bounds legal kept. (fit_of_legal s bounds h legal).states n w text kept
