use Rattle.esm_turn.specs.Seats.{IsFreeSeat}
use Rattle.esm_turn.proofs.tests.often.Given as goal

abbrev pub invariant-loop-i : goal.invariant-loop-i
invariant-loop-i g l = IsFreeSeat l.turn l.k l.seat
