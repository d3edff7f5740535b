use Rattle.esm_program_life.proofs.QueueCommands.{command_whole}
use Rattle.esm_program_life.proofs.queues.command_keeps_queue_whole.Goals as goal
use Rattle.esm_run.specs.World.{devices}

pub returns : goal.returns
returns g c = λ words old new status command fifo life epoch said spelled.
    command_whole (devices g.C.Clock g.F.Caller g.D.Disk g.S.Source g.K.Sink g.L.Door g.L.Conn.Link) (record {
      only_now = λ disk bytes. g.met.D.Disk.only_now disk bytes;
      found = c.life_is_found.ensures;
      goes_on = c.life_goes_on.ensures;
      whole = c.ended_is_whole.ensures;
      redriven = c.life_goes_on-2.ensures;
      whole_redrive = c.ended_is_whole-2.ensures;
      redrive = c.run_is_stage.ensures;
      compacted = c.compacted_life_goes_on.ensures;
    }) fifo words old new status said c.one_command.ensures command life epoch spelled
