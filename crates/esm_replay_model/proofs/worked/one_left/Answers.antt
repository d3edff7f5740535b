use Rattle.esm_replay_model.proofs.WorkedReplays as facts
use Rattle.esm_replay_model.proofs.worked.one_left.Goals as goal

pub returns : goal.returns
returns c = record { replay_edges = facts.replay_edges; unnamed = facts.unnamed; unlisted = facts.unlisted }
