use Rattle.esm_replay_model.proofs.Runs.{replayed_as_answered}
use Rattle.esm_replay_model.proofs.laws.replayed_as_answered.Goals as goal

pub returns : goal.returns
returns c = replayed_as_answered
