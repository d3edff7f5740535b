use Rattle.esm_model.proofs.BookLaws.{legal_kept}
use Rattle.esm_model.proofs.book_laws.legal_is_kept.Goals as goal

pub returns : goal.returns
returns c = legal_kept
