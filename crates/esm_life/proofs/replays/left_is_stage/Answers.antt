use Rattle.esm_io.specs.Meanings.{disk as meaning}
use Rattle.esm_life.proofs.ReplayStages.{left_by}
use Rattle.esm_life.proofs.replays.left_is_stage.Goals as goal

pub returns : goal.returns
returns g c = left_by (meaning g.D.Disk)
