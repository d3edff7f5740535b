use Rattle.esm_replay_model.proofs.Runs.{calls_named}
use Rattle.esm_replay_model.proofs.laws.calls_named.Goals as goal

pub returns : goal.returns
returns c = calls_named
