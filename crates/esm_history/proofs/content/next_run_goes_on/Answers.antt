use Rattle.esm_history.proofs.GoesOn.{goes_on}
use Rattle.esm_history.proofs.content.next_run_goes_on.Goals as goal

pub returns : goal.returns
returns c = goes_on
