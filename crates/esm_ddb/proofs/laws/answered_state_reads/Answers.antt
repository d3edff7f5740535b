use Rattle.esm_ddb.proofs.AnsweredStates.{answered_state_is}
use Rattle.esm_ddb.proofs.laws.answered_state_reads.Goals as goal

pub returns : goal.returns
returns c = answered_state_is
