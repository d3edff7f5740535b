use Rattle.esm_replay_model.proofs.Tallying.{add_up}
use Rattle.esm_replay_model.proofs.laws.counts_add_up.Goals as goal

pub returns : goal.returns
returns c = add_up
