use Rattle.esm_journal_state.proofs.Determined as determined
use Rattle.esm_journal_state.proofs.laws.same_told.Goals as goal

pub returns : goal.returns
returns c = determined.same_told
