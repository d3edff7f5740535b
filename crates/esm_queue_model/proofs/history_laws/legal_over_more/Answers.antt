use Rattle.esm_queue_model.proofs.MoreMessages.{legal_over_more_in}
use Rattle.esm_queue_model.proofs.history_laws.legal_over_more.Goals as goal

pub returns : goal.returns
returns c = legal_over_more_in
