use Rattle.esm_model.proofs.BookLaws.{kept_told}
use Rattle.esm_model.proofs.book_laws.kept_is_of_stream.Goals as goal

pub returns : goal.returns
returns c = kept_told
