use Rattle.esm_io.specs.Meanings.{disk as meaning}
use Rattle.esm_life.proofs.ReplayStages.{goes_on}
use Rattle.esm_life.proofs.streams.replay_goes_on.Goals as goal

pub returns : goal.returns
returns g c = goes_on (meaning g.D.Disk)
