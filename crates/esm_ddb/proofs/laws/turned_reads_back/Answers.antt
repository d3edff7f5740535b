use Rattle.esm_ddb.proofs.LineLaws.{read_back}
use Rattle.esm_ddb.proofs.laws.turned_reads_back.Goals as goal

pub returns : goal.returns
returns c = read_back
