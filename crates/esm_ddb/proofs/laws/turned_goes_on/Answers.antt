use Rattle.esm_ddb.proofs.Growing.{goes_on}
use Rattle.esm_ddb.proofs.laws.turned_goes_on.Goals as goal

pub returns : goal.returns
returns c = goes_on
