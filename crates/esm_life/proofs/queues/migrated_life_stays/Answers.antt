use Rattle.esm_io.specs.Meanings.{disk as meaning}
use Rattle.esm_life.proofs.QueueFiles.{migrated}
use Rattle.esm_life.proofs.queues.migrated_life_stays.Goals as goal

pub returns : goal.returns
returns g c = migrated (meaning g.D.Disk)
