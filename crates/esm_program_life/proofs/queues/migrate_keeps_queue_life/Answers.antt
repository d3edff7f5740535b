use Rattle.esm_program_life.proofs.QueueSteps.{migrates}
use Rattle.esm_program_life.proofs.queues.migrate_keeps_queue_life.Goals as goal
use Rattle.esm_run.specs.World.{devices}

pub returns : goal.returns
returns g c = λ words old new status fifo life epoch said spelled.
    migrates (devices g.C.Clock g.F.Caller g.D.Disk g.S.Source g.K.Sink g.L.Door g.L.Conn.Link) words old new status said fifo life epoch (λ disk bytes. g.met.D.Disk.only_now disk bytes) c.migrating_life_stays.ensures spelled
