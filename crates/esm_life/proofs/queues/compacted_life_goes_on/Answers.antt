use Rattle.esm_io.specs.Meanings.{disk as meaning}
use Rattle.esm_life.proofs.QueueFiles.{compacted}
use Rattle.esm_life.proofs.queues.compacted_life_goes_on.Goals as goal

pub returns : goal.returns
returns g c = compacted (meaning g.D.Disk)
