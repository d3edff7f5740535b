use Rattle.std.proofs.Common.{length, sym, ap, ◌∙◌}
use Rattle.esm_lanes.specs.Piece.{Lane, open_places}
use Rattle.esm_lanes.proofs.Runs.{open_places-pieces_of}
use Rattle.esm_lanes.proofs.queue.PieceQueue.count.Goals as goal

pub returns : goal.returns
returns c =
    let q = c.self.inside in
    c.len.ensures
    ∙ ap length (sym (open_places-pieces_of q.runs.items q.places.places c.self.invariant.laid.covered))
    ∙ ap (λ (l : Lane). length (open_places l.pieces)) c.self.view_is
