use Rattle.esm_model.proofs.CallsOver.{calls_same}
use Rattle.esm_model.proofs.laws.calls_kept_over_more_records.Goals as goal

pub returns : goal.returns
returns c = calls_same
