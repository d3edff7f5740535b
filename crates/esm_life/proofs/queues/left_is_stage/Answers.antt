use Rattle.esm_io.specs.Meanings.{disk as meaning}
use Rattle.esm_life.proofs.QueueFiles.{of_stage}
use Rattle.esm_life.proofs.queues.left_is_stage.Goals as goal

pub returns : goal.returns
returns g c = of_stage (meaning g.D.Disk) (λ disk bytes. g.met.D.Disk.only_now disk bytes)
