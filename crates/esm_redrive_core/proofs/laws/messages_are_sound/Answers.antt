use Rattle.esm_redrive_core.proofs.Settling.{came_sound}
use Rattle.esm_redrive_core.proofs.laws.messages_are_sound.Goals as goal

pub returns : goal.returns
returns c = λ s h sound old xs m b. came_sound s h old xs m b sound
