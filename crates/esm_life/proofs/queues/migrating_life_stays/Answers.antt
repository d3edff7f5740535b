use Rattle.esm_io.specs.Meanings.{disk as meaning}
use Rattle.esm_life.proofs.QueueFiles.{migrating}
use Rattle.esm_life.proofs.queues.migrating_life_stays.Goals as goal

pub returns : goal.returns
returns g c = migrating (meaning g.D.Disk)
