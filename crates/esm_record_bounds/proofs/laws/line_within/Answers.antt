use Rattle.esm_record_bounds.proofs.Lines as lines
use Rattle.esm_record_bounds.proofs.laws.line_within.Goals as goal

pub returns : goal.returns
returns c = lines.line_short
