use Rattle.esm_run.proofs.RunEndings.{good_files}
use Rattle.esm_run.proofs.opened.closed.Goals as goal

pub returns-clause-good : goal.returns-clause-good
returns-clause-good g c = λ registry. good_files _ c.args.opened.files registry c.keeps.ensures
