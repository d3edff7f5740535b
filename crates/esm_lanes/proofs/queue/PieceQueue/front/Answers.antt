use Rattle.std.proofs.Common.{◌<◌, length, ap, subst, arith, rules}
use Rattle.std.specs.Prelude.{All}
use Rattle.esm_lanes.specs.Piece.{Lane, HasPlaces, open_places}
use Rattle.esm_lanes.proofs.Runs.{open_places-pieces_of, total-filled, pieces_of-filled}
use Rattle.esm_lanes.proofs.queue.PieceQueue.front.Goals as goal

pub returns-clause-none : goal.returns-clause-none
returns-clause-none c =
    let q = c.self.inside in
    let laid = c.self.invariant.laid in
    let open' = ap length (open_places-pieces_of q.runs.items q.places.places laid.covered) in
    let now = ap (λ (l : Lane). length (open_places l.pieces)) c.self.view_is in
    let some : 0 < length q.runs.items = search rules in
    let filled = total-filled q.runs.items laid.filled some in
    (λ e. cc, λ e. absurd (omega (arith, laid.covered, open', now, filled, ap length e)))

pub returns-clause-filled : goal.returns-clause-filled
returns-clause-filled c =
    let q = c.self.inside in
    let laid = c.self.invariant.laid in
    let Filled : Lane → Type 0 = λ l. All HasPlaces l.pieces in
    subst Filled c.self.view_is (pieces_of-filled q.runs.items q.places.places laid.filled laid.covered)
