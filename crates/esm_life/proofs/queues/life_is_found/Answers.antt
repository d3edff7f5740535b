use Rattle.esm_io.specs.Meanings.{disk as meaning}
use Rattle.esm_life.proofs.QueueFiles.{found_again}
use Rattle.esm_life.proofs.queues.life_is_found.Goals as goal

pub returns : goal.returns
returns g c = found_again (meaning g.D.Disk)
