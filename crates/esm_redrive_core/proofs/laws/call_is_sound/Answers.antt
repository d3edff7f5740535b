use Rattle.esm_redrive_core.proofs.Settling.{began_sound}
use Rattle.esm_redrive_core.proofs.laws.call_is_sound.Goals as goal

pub returns : goal.returns
returns c = λ s h sound lane places m later may. began_sound s h lane places m sound later may
