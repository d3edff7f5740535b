use Rattle.esm_io.specs.Meanings.{disk as meaning}
use Rattle.esm_life.proofs.QueueFiles.{of_life}
use Rattle.esm_life.proofs.queues.life_goes_on.Goals as goal

pub returns : goal.returns
returns g c = of_life (meaning g.D.Disk) (λ disk bytes. g.met.D.Disk.only_now disk bytes)
