use Rattle.std.proofs.Common.{refl}
use Rattle.esm_queue_core.specs.Ending.{ended_places}
use Rattle.esm_queue_core.proofs.Settling.{ended_sound}
use Rattle.esm_queue_core.proofs.laws.end_is_sound.Goals as goal

pub returns : goal.returns
returns c s h sound lane reply m runs later = ended_sound s h lane reply m (ended_places s h lane reply m) sound runs later refl
