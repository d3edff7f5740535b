use Rattle.esm_replay_model.proofs.Sayings.{says_after}
use Rattle.esm_replay_model.proofs.laws.says_after.Goals as goal

pub returns : goal.returns
returns c = says_after
