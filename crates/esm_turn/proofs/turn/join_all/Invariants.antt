use Rattle.std.proofs.Common.{◌≡◌, false, List, [], ◌++◌, length}
use Rattle.esm_turn.specs.Parts.{Each}
use Rattle.esm_turn.specs.Seats.{SeatView}
use Rattle.esm_turn.proofs.Closing.{AllWithin}
use Rattle.esm_turn.proofs.turn.join_all.Given as goal

abbrev pub invariant-loop-seat : goal.invariant-loop-seat
invariant-loop-seat g l =
    (l.all.table_id ≡ l.shared.table_id)
    × (l.all.me.1 ≡ [])
    × Each (λ p. p.holds ≡ false) l.all.me.0
    × ((more : List SeatView) × (l.seats.items ++ more ≡ l.fn.seats.items) × AllWithin more l.all.me.0)

abbrev pub decreases-loop-seat : goal.decreases-loop-seat
decreases-loop-seat g l = length l.seats.items
