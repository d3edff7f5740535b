use Rattle.std.proofs.Common.{ℕ, ◌≤◌, List, ap, ap₂, ◌∙◌, arith}
use Rattle.esm_lanes.specs.declared.run.Run.{Run}
use Rattle.esm_lanes.specs.Piece.{Piece, Lane, front_length, after_shorten}
use Rattle.esm_lanes.specs.Run.{pieces_of, first_count}
use Rattle.esm_lanes.proofs.Runs.{pieces_of-first_shortened, front_length-pieces_of}
use Rattle.esm_lanes.proofs.queue.PieceQueue.shorten.Goals as goal

pub returns : goal.returns
returns c =
    let q = c.self.inside in
    let lane_of : List Piece → Lane = λ pieces. record { pieces = pieces; adds = q.adds; splits = q.splits } in
    let within : c.args.count ≤ first_count q.runs.items = omega (arith, front_length-pieces_of q.runs.items q.places.places c.self.invariant.laid.covered, ap (λ (l : Lane). front_length l.pieces) c.self.view_is) in
    ap₂ (λ (places : List ℕ) (runs : List Run). lane_of (pieces_of places runs)) c.drop_first.ensures.places c.shorten_first.ensures.runs
    ∙ ap lane_of (pieces_of-first_shortened c.args.count q.runs.items q.places.places within c.self.invariant.laid.covered)
    ∙ ap (after_shorten c.args.count) c.self.view_is
