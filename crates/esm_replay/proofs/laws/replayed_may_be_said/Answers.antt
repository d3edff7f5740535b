use Rattle.esm_replay.proofs.Saying.{run_said}
use Rattle.esm_replay.proofs.laws.replayed_may_be_said.Goals as goal

pub returns : goal.returns
returns c = run_said
