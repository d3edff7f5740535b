use Rattle.esm_queue_life.proofs.Lives.{ids_kept}
use Rattle.esm_queue_life.proofs.life.ids_are_kept.Goals as goal

pub returns : goal.returns
returns c = ids_kept
