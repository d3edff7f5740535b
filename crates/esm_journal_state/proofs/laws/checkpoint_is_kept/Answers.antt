use Rattle.esm_journal_state.proofs.KeptFates as kept
use Rattle.esm_journal_state.proofs.laws.checkpoint_is_kept.Goals as goal

pub returns : goal.returns
returns c = kept.checkpoint_kept
