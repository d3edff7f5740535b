use Rattle.esm_io.specs.Meanings.{disk as meaning}
use Rattle.esm_life.proofs.StreamFiles.{migrating}
use Rattle.esm_life.proofs.streams.migrating_life_stays.Goals as goal

pub returns : goal.returns
returns g c = migrating (meaning g.D.Disk)
