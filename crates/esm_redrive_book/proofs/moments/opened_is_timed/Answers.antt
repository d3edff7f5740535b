use Rattle.esm_redrive_book.proofs.Timed.{opened_timed}
use Rattle.esm_redrive_book.proofs.moments.opened_is_timed.Goals as goal

pub returns : goal.returns
returns g c = λ gave config calls visibility max_receives lines pair dest b. opened_timed gave config calls visibility max_receives lines pair dest b
