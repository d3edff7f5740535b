use Rattle.esm_program_life.proofs.DdbElements.{words_send}
use Rattle.esm_program_life.proofs.ddb.ddb_sends_elements.Goals as goal
use Rattle.esm_run.specs.World.{devices}

pub returns : goal.returns
returns g c = λ words old new status config calls timeout traced life epoch said spelled.
    words_send c.ended_lines_are_whole.ensures c.records_are_of_lines.ensures.lines c.records_are_of_lines.ensures.changes c.event_has_its_elements.ensures.source c.calls_have_their_elements.ensures.calls c.calls_have_their_elements.ensures.running c.life_says_states.ensures
    (devices g.C.Clock g.F.Caller g.D.Disk g.S.Source g.K.Sink g.L.Door g.L.Conn.Link) c.one_command.ensures c.life_is_found.ensures
    words old new status config calls timeout traced life epoch said spelled
