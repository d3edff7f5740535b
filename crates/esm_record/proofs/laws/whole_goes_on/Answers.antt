use Rattle.esm_record.proofs.Wholes.{whole_goes_on}
use Rattle.esm_record.proofs.laws.whole_goes_on.Goals as goal

pub returns : goal.returns
returns c = whole_goes_on
