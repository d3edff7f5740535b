use Rattle.esm_replay_model.proofs.Leaving.{replayed_or_left}
use Rattle.esm_replay_model.proofs.laws.replayed_or_left.Goals as goal

pub returns : goal.returns
returns c = replayed_or_left
