use Rattle.esm_model.proofs.CallsOver.{since_same}
use Rattle.esm_model.proofs.laws.calls_since_kept_over_more_records.Goals as goal

pub returns : goal.returns
returns c = since_same
