use Rattle.esm_replay_model.proofs.Answering.{logged}
use Rattle.esm_replay_model.proofs.laws.calls_logged.Goals as goal

pub returns : goal.returns
returns c = logged
