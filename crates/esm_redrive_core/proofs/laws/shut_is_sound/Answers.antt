use Rattle.esm_redrive_core.proofs.Settling.{shut_sound}
use Rattle.esm_redrive_core.proofs.laws.shut_is_sound.Goals as goal

pub returns : goal.returns
returns c = λ s h sound m going later. shut_sound s h m sound going later
