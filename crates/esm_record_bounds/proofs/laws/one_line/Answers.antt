use Rattle.esm_record_bounds.proofs.Lines as lines
use Rattle.esm_record_bounds.proofs.laws.one_line.Goals as goal

pub returns : goal.returns
returns c = lines.one_line
