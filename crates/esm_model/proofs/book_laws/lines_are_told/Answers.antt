use Rattle.esm_model.proofs.TellingFacts.{lines_same}
use Rattle.esm_model.proofs.book_laws.lines_are_told.Goals as goal

pub returns : goal.returns
returns c = lines_same
