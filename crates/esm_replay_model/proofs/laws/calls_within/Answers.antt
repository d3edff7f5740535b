use Rattle.esm_replay_model.proofs.Runs.{calls_within}
use Rattle.esm_replay_model.proofs.laws.calls_within.Goals as goal

pub returns : goal.returns
returns c = calls_within
