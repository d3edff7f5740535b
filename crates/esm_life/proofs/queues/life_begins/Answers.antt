use Rattle.esm_io.specs.Meanings.{disk as meaning}
use Rattle.esm_life.proofs.QueueFiles.{life_begun}
use Rattle.esm_life.proofs.queues.life_begins.Goals as goal

pub returns : goal.returns
returns g c = life_begun (meaning g.D.Disk)
