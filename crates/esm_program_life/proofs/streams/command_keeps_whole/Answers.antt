use Rattle.esm_program_life.proofs.StreamCommands.{command_whole}
use Rattle.esm_program_life.proofs.streams.command_keeps_whole.Goals as goal
use Rattle.esm_run.specs.World.{devices}

pub returns : goal.returns
returns g c = λ words old new status command life epoch said spelled.
    command_whole (devices g.C.Clock g.F.Caller g.D.Disk g.S.Source g.K.Sink g.L.Door g.L.Conn.Link) (record {
      only_now = λ disk bytes. g.met.D.Disk.only_now disk bytes;
      same = c.unwritten_life_stays.ensures;
      found = c.life_is_found.ensures;
      goes_on = c.life_goes_on.ensures;
      whole = c.ended_is_whole.ensures;
      replayed = c.replay_goes_on.ensures;
      replay = c.run_is_stage.ensures;
      compacted = c.compacted_life_goes_on.ensures;
    }) words old new status said c.one_command.ensures command life epoch spelled
