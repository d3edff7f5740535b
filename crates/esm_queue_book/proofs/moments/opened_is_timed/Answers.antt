use Rattle.esm_queue_book.proofs.Timed.{opened_timed}
use Rattle.esm_queue_book.proofs.moments.opened_is_timed.Goals as goal

pub returns : goal.returns
returns g c = λ gave config calls visibility pair b. opened_timed gave config calls visibility pair b
