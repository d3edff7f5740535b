use Rattle.esm_model.proofs.NamedPlaces.{names_came}
use Rattle.esm_model.proofs.book_laws.named_places_came.Goals as goal

pub returns : goal.returns
returns c = names_came
