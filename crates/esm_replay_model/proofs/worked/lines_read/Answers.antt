use Rattle.esm_replay_model.proofs.WorkedReplays.{failure_ranges}
use Rattle.esm_replay_model.proofs.worked.lines_read.Goals as goal

pub returns : goal.returns
returns c = failure_ranges
