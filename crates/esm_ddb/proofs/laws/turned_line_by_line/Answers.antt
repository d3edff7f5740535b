use Rattle.esm_ddb.proofs.LinesTurned.{line_by_line}
use Rattle.esm_ddb.proofs.laws.turned_line_by_line.Goals as goal

pub returns : goal.returns
returns c = line_by_line
