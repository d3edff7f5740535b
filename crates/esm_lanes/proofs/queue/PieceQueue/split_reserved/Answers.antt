use Rattle.std.proofs.Common.{◌-◌, ◌≤◌, List, ap, ◌∙◌, arith}
use Rattle.esm_lanes.specs.declared.run.Run.{Run}
use Rattle.esm_lanes.specs.Piece.{Piece, Lane, front_length, after_split}
use Rattle.esm_lanes.specs.Run.{pieces_of, first_count}
use Rattle.esm_lanes.proofs.Runs.{pieces_of-first_split, front_length-pieces_of}
use Rattle.esm_lanes.proofs.queue.PieceQueue.split_reserved.Goals as goal

pub returns : goal.returns
returns c =
    let q = c.self.inside in
    let lane_of : List Piece → Lane = λ pieces. record { pieces = pieces; adds = q.adds; splits = q.splits - 1 } in
    let within : c.args.first ≤ first_count q.runs.items = omega (arith, front_length-pieces_of q.runs.items q.places.places c.self.invariant.laid.covered, ap (λ (l : Lane). front_length l.pieces) c.self.view_is) in
    ap (λ (runs : List Run). lane_of (pieces_of q.places.places runs)) c.split_first.ensures.runs
    ∙ ap lane_of (pieces_of-first_split c.args.first c.args.tries q.runs.items q.places.places within c.self.invariant.laid.covered)
    ∙ ap (after_split c.args.first c.args.tries) c.self.view_is
