use Rattle.std.proofs.Common.{length, refl}
use Rattle.esm_queue_core.specs.Coming.{refused_from}
use Rattle.esm_queue_core.proofs.Settling.{came_sound}
use Rattle.esm_queue_core.proofs.laws.messages_are_sound.Goals as goal

pub returns : goal.returns
returns c s h sound old xs m brings = came_sound s h old xs m (refused_from s (length old) xs) brings sound refl
