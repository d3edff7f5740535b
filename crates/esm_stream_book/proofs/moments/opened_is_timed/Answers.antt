use Rattle.esm_stream_book.proofs.PoolingTimed.{opened_timed}
use Rattle.esm_stream_book.proofs.moments.opened_is_timed.Goals as goal

pub returns : goal.returns
returns g c = λ gave config calls pair dest b. opened_timed gave config calls pair dest b
