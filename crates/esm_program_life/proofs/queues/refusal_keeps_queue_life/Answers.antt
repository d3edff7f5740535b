use Rattle.esm_program_life.proofs.QueueCommands.{refusal_keeps}
use Rattle.esm_program_life.proofs.queues.refusal_keeps_queue_life.Goals as goal
use Rattle.esm_run.specs.World.{devices}

pub returns : goal.returns
returns g c = λ words old new status fifo life epoch said none.
    refusal_keeps (devices g.C.Clock g.F.Caller g.D.Disk g.S.Source g.K.Sink g.L.Door g.L.Conn.Link) (λ disk bytes. g.met.D.Disk.only_now disk bytes) fifo words old new status life epoch said none
