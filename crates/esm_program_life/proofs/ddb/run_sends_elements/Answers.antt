use Rattle.esm_program_life.proofs.DdbElements.{run_sends}
use Rattle.esm_program_life.proofs.ddb.run_sends_elements.Goals as goal
use Rattle.esm_run.specs.World.{run_tells}

pub returns : goal.returns
returns g c = λ config calls traced h old new text ending.
    run_sends c.ended_lines_are_whole.ensures c.records_are_of_lines.ensures.lines c.records_are_of_lines.ensures.changes c.event_has_its_elements.ensures.source c.calls_have_their_elements.ensures.calls c.calls_have_their_elements.ensures.running
    (run_tells g.C.Clock g.F.Caller g.D.Disk g.S.Source) config calls traced h old new text ending
