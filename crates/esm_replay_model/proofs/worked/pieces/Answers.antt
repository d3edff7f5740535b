use Rattle.esm_replay_model.proofs.WorkedReplays as facts
use Rattle.esm_replay_model.proofs.worked.pieces.Goals as goal

pub returns : goal.returns
returns c = record { halved = facts.halved; later_half = facts.later_half; reported = facts.reported }
