use Rattle.esm_program_life.proofs.Steps.{migrates}
use Rattle.esm_program_life.proofs.streams.migrate_keeps_life.Goals as goal
use Rattle.esm_run.specs.World.{devices}

pub returns : goal.returns
returns g c = λ words old new status life epoch said spelled.
    migrates (devices g.C.Clock g.F.Caller g.D.Disk g.S.Source g.K.Sink g.L.Door g.L.Conn.Link) words old new status said life epoch c.migrating_life_stays.ensures spelled
