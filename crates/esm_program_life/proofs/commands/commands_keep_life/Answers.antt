use Rattle.esm_program_life.proofs.Steps.{steps_keep}
use Rattle.esm_program_life.proofs.commands.commands_keep_life.Goals as goal
use Rattle.esm_run.specs.World.{devices}

pub returns : goal.returns
returns g c = λ found steps life epoch.
    steps_keep (devices g.C.Clock g.F.Caller g.D.Disk g.S.Source g.K.Sink g.L.Door g.L.Conn.Link) (record {
      only_now = λ disk bytes. g.met.D.Disk.only_now disk bytes;
      same = c.unwritten_life_stays.ensures;
      found = c.life_is_found.ensures;
      goes_on = c.life_goes_on.ensures;
      whole = c.ended_is_whole.ensures;
      replayed = c.replay_goes_on.ensures;
      replay = c.run_is_stage.ensures;
      compacted = c.compacted_life_goes_on.ensures;
    }) c.one_command.ensures found life epoch steps
