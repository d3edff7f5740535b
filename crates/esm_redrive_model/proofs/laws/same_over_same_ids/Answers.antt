use Rattle.esm_redrive_model.proofs.SameIds.{known_same, legal_same}
use Rattle.esm_redrive_model.proofs.laws.same_over_same_ids.Goals as goal

pub returns : goal.returns
returns c = λ s ids h same. record { same_known = known_same s ids h same; legal = legal_same s ids h same }
