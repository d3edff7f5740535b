use Rattle.esm_journal_state.proofs.KeptFates as kept
use Rattle.esm_journal_state.proofs.laws.fates_are_kept.Goals as goal

pub returns : goal.returns
returns c = kept.fates_kept
