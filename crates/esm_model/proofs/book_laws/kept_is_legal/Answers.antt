use Rattle.esm_model.proofs.BookLaws.{kept_legal}
use Rattle.esm_model.proofs.book_laws.kept_is_legal.Goals as goal

pub returns : goal.returns
returns c = kept_legal
