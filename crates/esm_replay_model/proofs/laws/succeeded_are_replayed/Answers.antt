use Rattle.esm_replay_model.proofs.Answering.{succeeded}
use Rattle.esm_replay_model.proofs.laws.succeeded_are_replayed.Goals as goal

pub returns : goal.returns
returns c = succeeded
