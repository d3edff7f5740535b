use Rattle.std.proofs.Common.{◌≡◌, ℕ, ◌-◌, ◌≤◌, ◌<◌, [], length, vec_len, vec_capacity, slice_index_or}
use Rattle.esm_turn.specs.Parts.{begun_parts}
use Rattle.esm_turn.specs.Seats.{SeatView, begun_seat, turn_view}
use Rattle.esm_turn.proofs.turn.seat_all.Given as goal

abbrev pub invariant-loop-i : goal.invariant-loop-i
invariant-loop-i g l =
    let setup = g.T.Kept.setup l.shared.key.made.value in
    let seen = g.T.Kept.history l.shared.key.made.value in
    let change = g.T.Kept.change l.shared.key.made.value in
    (l.first.table_id ≡ l.shared.table_id)
    × (l.first.me ≡ (begun_parts g.T.Kept.author setup seen change l._i (l.seats - l._i), []))
    × (vec_len l.all ≡ l._i)
    × (l.seats ≤ vec_capacity l.all)
    × ((k : ℕ) (d : SeatView) → k < l._i → slice_index_or l.all.items k d ≡ begun_seat g.T.Kept.author seen change (turn_view l.shared.table_id setup l.seats) k)
    × (length l.all.items ≡ l._i)
