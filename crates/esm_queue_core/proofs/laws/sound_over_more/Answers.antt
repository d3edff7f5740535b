use Rattle.esm_queue_core.proofs.More.{sound_over}
use Rattle.esm_queue_core.proofs.laws.sound_over_more.Goals as goal

pub returns : goal.returns
returns c s h after goes sound = sound_over s after h goes sound
