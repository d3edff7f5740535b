use Rattle.esm_program_life.proofs.QueueCommands.{compact_writes}
use Rattle.esm_program_life.proofs.queues.compact_rewrites_queue_life.Goals as goal
use Rattle.esm_run.specs.World.{devices}

pub returns : goal.returns
returns g c = λ words old new status fifo life epoch said spelled.
    compact_writes (devices g.C.Clock g.F.Caller g.D.Disk g.S.Source g.K.Sink g.L.Door g.L.Conn.Link) fifo words old new status life epoch said c.one_command.ensures spelled
