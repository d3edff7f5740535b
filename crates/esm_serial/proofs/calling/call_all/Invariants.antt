use Rattle.esm_serial.specs.Steps.{LeadsOn, IsAsItWas}
use Rattle.esm_serial.proofs.calling.call_all.Given as goal

abbrev pub invariant-loop : goal.invariant-loop
invariant-loop g l =
    (goal.iterator-loop g).can_next l.iterator' × (goal.iterator-loop g).is_finite l.iterator'
    × g.B.Serial.rests l.book
    × IsAsItWas g.B.Serial l.fn.book l.book
    × LeadsOn g.B.Serial g.C.Clock.gave g.F.Caller.sends l.fn.book l.book (g.F.Caller.log l.fn.caller) (g.F.Caller.log l.caller)
