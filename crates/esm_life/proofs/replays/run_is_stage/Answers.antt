use Rattle.esm_io.specs.Meanings.{disk as meaning}
use Rattle.esm_life.proofs.ReplayStages.{stage}
use Rattle.esm_life.proofs.replays.run_is_stage.Goals as goal

pub returns : goal.returns
returns g c = stage (meaning g.D.Disk)
