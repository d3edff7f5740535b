use Rattle.esm_io.specs.Meanings.{disk as meaning}
use Rattle.esm_life.proofs.StreamFiles.{begins}
use Rattle.esm_life.proofs.streams.life_begins.Goals as goal

pub returns : goal.returns
returns g c = begins (meaning g.D.Disk)
