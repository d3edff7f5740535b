use Rattle.esm_ddb.proofs.Growing.{whole_of_front}
use Rattle.esm_ddb.proofs.laws.ended_lines_are_whole.Goals as goal

pub returns : goal.returns
returns c = whole_of_front
