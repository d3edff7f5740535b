use Rattle.std.proofs.Common.{◌≡◌, length, None}
use Rattle.std.specs.List.{All}
use Rattle.esm_model.specs.Items.{IsValidItem}
use Rattle.esm_serial.specs.Readings.{Brings}
use Rattle.esm_serial.proofs.Handing.{IsHanding}
use Rattle.esm_serial.proofs.reading.hand_on.Given as goal

abbrev pub invariant-loop-rest : goal.invariant-loop-rest
invariant-loop-rest g l = Brings g.B.Serial g.C.Clock.gave l.fn.book l.book
    × (g.B.Serial.change l.book ≡ None)
    × All (IsValidItem (g.B.Serial.kind l.fn.book)) l.rest.items
    × IsHanding (g.B.Serial.items l.fn.book) (g.B.Serial.items l.book) l.fn.items.items l.rest.items

abbrev pub decreases-loop-rest : goal.decreases-loop-rest
decreases-loop-rest g l = length l.rest.items
