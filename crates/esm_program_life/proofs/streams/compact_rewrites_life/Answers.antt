use Rattle.esm_program_life.proofs.StreamCommands.{compact_writes}
use Rattle.esm_program_life.proofs.streams.compact_rewrites_life.Goals as goal
use Rattle.esm_run.specs.World.{devices}

pub returns : goal.returns
returns g c = λ words old new status life epoch said spelled.
    compact_writes (devices g.C.Clock g.F.Caller g.D.Disk g.S.Source g.K.Sink g.L.Door g.L.Conn.Link) (λ disk bytes. g.met.D.Disk.only_now disk bytes) words old new status life epoch said c.one_command.ensures spelled
