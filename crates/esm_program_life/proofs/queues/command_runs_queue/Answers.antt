use Rattle.esm_program_life.proofs.QueueCommands.{command_ran}
use Rattle.esm_program_life.proofs.queues.command_runs_queue.Goals as goal
use Rattle.esm_run.specs.World.{devices}

pub returns : goal.returns
returns g c = λ words old new status command fifo said spelled.
    command_ran (devices g.C.Clock g.F.Caller g.D.Disk g.S.Source g.K.Sink g.L.Door g.L.Conn.Link) fifo words old new status said c.one_command.ensures command spelled
