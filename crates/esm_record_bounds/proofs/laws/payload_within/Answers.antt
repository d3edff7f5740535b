use Rattle.esm_record_bounds.proofs.Lengths.{payload_short}
use Rattle.esm_record_bounds.proofs.laws.payload_within.Goals as goal

pub returns : goal.returns
returns c = payload_short
