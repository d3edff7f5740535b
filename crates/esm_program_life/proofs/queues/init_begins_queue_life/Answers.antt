use Rattle.esm_program_life.proofs.QueueSteps.{begins}
use Rattle.esm_program_life.proofs.queues.init_begins_queue_life.Goals as goal
use Rattle.esm_run.specs.World.{devices}

pub returns : goal.returns
returns g c = λ words old new status fifo said spelled.
    begins (devices g.C.Clock g.F.Caller g.D.Disk g.S.Source g.K.Sink g.L.Door g.L.Conn.Link) words old new status said fifo c.one_command.ensures c.life_begins.ensures spelled
