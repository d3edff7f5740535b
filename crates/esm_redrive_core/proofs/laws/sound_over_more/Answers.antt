use Rattle.esm_redrive_core.proofs.Settling.{sound_over}
use Rattle.esm_redrive_core.proofs.laws.sound_over_more.Goals as goal

pub returns : goal.returns
returns c = sound_over
