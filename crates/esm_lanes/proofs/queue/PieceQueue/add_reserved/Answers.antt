use Rattle.std.proofs.Common.{ℕ, ◌-◌, List, length, ap, ap₂, ◌∙◌, arith, length-append}
use Rattle.esm_lanes.specs.declared.run.Run.{Run}
use Rattle.esm_lanes.specs.Piece.{Piece, Lane, open_places, after_add}
use Rattle.esm_lanes.specs.Run.{pieces_of}
use Rattle.esm_lanes.proofs.Runs.{open_places-pieces_of, laid-one_added, pieces_of-one_added}
use Rattle.esm_lanes.proofs.queue.PieceQueue.add_reserved.Goals as goal

pub add_one-requires-clause-few : goal.add_one-requires-clause-few
add_one-requires-clause-few c =
    let q = c.self.inside in
    let laid = c.self.invariant.laid in
    let open' = ap length (open_places-pieces_of q.runs.items q.places.places laid.covered) in
    let now = ap (λ (l : Lane). length (open_places l.pieces)) c.self.view_is in
    omega (arith, laid.covered, open', now)

pub invariant_of-self : goal.invariant_of-self
invariant_of-self c =
    let q = c.self.inside in
    let laid = c.self.invariant.laid in
    let open' = ap length (open_places-pieces_of q.runs.items q.places.places laid.covered) in
    let now = ap (λ (l : Lane). length (open_places l.pieces)) c.self.view_is in
    let longer = ap length c.push_reserved.ensures.places in
    record {
      laid = rw (c.push_reserved.ensures.places, c.add_one.ensures.runs) (laid-one_added c.args.standing c.args.place q.runs.items q.places.places laid);
      few = omega (arith, open', now, longer, length-append {A = ℕ});
      room_for_places = omega arith;
      room_for_runs = omega (arith, ap (λ (l : Lane). l.adds) c.self.view_is);
    }

pub returns : goal.returns
returns c =
    let q = c.self.inside in
    let lane_of : List Piece → Lane = λ pieces. record { pieces = pieces; adds = q.adds - 1; splits = q.splits } in
    ap₂ (λ (places : List ℕ) (runs : List Run). lane_of (pieces_of places runs)) c.push_reserved.ensures.places c.add_one.ensures.runs
    ∙ ap lane_of (pieces_of-one_added c.args.standing c.args.place q.runs.items q.places.places c.self.invariant.laid.covered)
    ∙ ap (after_add c.args.standing c.args.place) c.self.view_is
