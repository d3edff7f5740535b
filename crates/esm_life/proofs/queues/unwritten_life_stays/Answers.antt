use Rattle.esm_io.specs.Meanings.{disk as meaning}
use Rattle.esm_life.proofs.QueueFiles.{same_life}
use Rattle.esm_life.proofs.queues.unwritten_life_stays.Goals as goal

pub returns : goal.returns
returns g c = same_life (meaning g.D.Disk)
