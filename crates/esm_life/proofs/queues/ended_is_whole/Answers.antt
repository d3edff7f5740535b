use Rattle.esm_io.specs.Meanings.{disk as meaning}
use Rattle.esm_life.proofs.QueueFiles.{of_whole}
use Rattle.esm_life.proofs.queues.ended_is_whole.Goals as goal

pub returns : goal.returns
returns g c = of_whole (meaning g.D.Disk) (λ disk bytes. g.met.D.Disk.only_now disk bytes)
