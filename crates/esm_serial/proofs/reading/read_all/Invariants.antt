use Rattle.std.proofs.Common.{◌≡◌, false, None}
use Rattle.esm_model.specs.Coming.{AreCome}
use Rattle.esm_input.specs.Reading.{handed}
use Rattle.esm_serial.specs.Ran.{IsSameInput}
use Rattle.esm_serial.specs.Readings.{Brings}
use Rattle.esm_serial.proofs.reading.read_all.Given as goal

abbrev pub invariant-loop : goal.invariant-loop
invariant-loop g l = (goal.iterator-loop g).can_next l.iterator' × (goal.iterator-loop g).is_finite l.iterator'
    × Brings g.B.Serial g.C.Clock.gave l.fn.book l.book
    × (g.B.Serial.change l.book ≡ None)
    × (g.B.Serial.down l.book ≡ false)
    × AreCome (g.B.Serial.items l.book) (handed l.input)
    × (l.input.failed ≡ false)
    × IsSameInput l.fn.input l.input
