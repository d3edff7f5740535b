use Rattle.esm_ddb.proofs.Steps.{on_ok}
use Rattle.esm_ddb.proofs.parallel.read_lines.Goals as goal

pub returns-clause-read : goal.returns-clause-read
returns-clause-read g c = on_ok c.take_block.result (λ step bytes before read.
    step bytes c.args.lines.now before c.requires.whole c.in_ok-block.ensures read) c.take_block.ensures.read
