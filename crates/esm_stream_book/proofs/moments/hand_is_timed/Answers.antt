use Rattle.esm_stream_book.proofs.Timed.{front_timed, hand_timed, tried_timed}
use Rattle.esm_stream_book.proofs.moments.hand_is_timed.Goals as goal

pub returns-clause-hand : goal.returns-clause-hand
returns-clause-hand c = λ gave v trouble timed. hand_timed gave trouble v.owed timed.owed

pub returns-clause-tried : goal.returns-clause-tried
returns-clause-tried c = λ gave v trouble timed. tried_timed gave trouble v.owed timed.owed

pub returns-clause-front : goal.returns-clause-front
returns-clause-front c = front_timed
