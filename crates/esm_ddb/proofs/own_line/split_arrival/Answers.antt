use Rattle.std.proofs.Common.{arith}
use Rattle.esm_ddb.proofs.OwnPieces.{arrival_passed}
use Rattle.esm_ddb.proofs.own_line.split_arrival.Goals as goal

pub returns-then-arrival-le-MAX_MOMENT : goal.returns-then-arrival-le-MAX_MOMENT
returns-then-arrival-le-MAX_MOMENT c =
    arrival_passed c.args.text.now c.in_ok-moment.moment.now c.in_ok-arrival.behind.now c.in_ok-rest.rest.now c.in_ok-arrival.arrival c.in_ok-moment.ensures c.in_ok-arrival.ensures c.in_ok-rest.ensures (omega arith)
