use Rattle.esm_redrive_core.proofs.Settling.{ended_sound}
use Rattle.esm_redrive_core.proofs.laws.end_is_sound.Goals as goal

pub returns : goal.returns
returns c = λ s h sound reply m runs later. ended_sound s h reply m sound runs later
