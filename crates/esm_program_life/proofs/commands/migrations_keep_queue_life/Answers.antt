use Rattle.esm_program_life.proofs.QueueSteps.{steps_migrate}
use Rattle.esm_program_life.proofs.commands.migrations_keep_queue_life.Goals as goal
use Rattle.esm_run.specs.World.{devices}

pub returns : goal.returns
returns g c = λ fifo found steps life epoch.
    steps_migrate (devices g.C.Clock g.F.Caller g.D.Disk g.S.Source g.K.Sink g.L.Door g.L.Conn.Link) (record {
      only_now = λ disk bytes. g.met.D.Disk.only_now disk bytes;
      found = c.life_is_found.ensures;
      goes_on = c.life_goes_on.ensures;
      whole = c.ended_is_whole.ensures;
      redriven = c.life_goes_on-2.ensures;
      whole_redrive = c.ended_is_whole-2.ensures;
      redrive = c.run_is_stage.ensures;
      compacted = c.compacted_life_goes_on.ensures;
    }) c.migrating_life_stays.ensures c.one_command.ensures fifo found life epoch steps
