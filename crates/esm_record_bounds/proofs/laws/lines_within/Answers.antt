use Rattle.esm_record_bounds.proofs.Lines as lines
use Rattle.esm_record_bounds.proofs.laws.lines_within.Goals as goal

pub returns : goal.returns
returns c = lines.legal_line_short
