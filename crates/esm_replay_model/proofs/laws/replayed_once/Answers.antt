use Rattle.esm_replay_model.proofs.Runs.{replayed_once}
use Rattle.esm_replay_model.proofs.laws.replayed_once.Goals as goal

pub returns : goal.returns
returns c = replayed_once
