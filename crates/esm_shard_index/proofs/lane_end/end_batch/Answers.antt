use Rattle.std.proofs.Common.{◌∙◌, ◌-◌, ap, slice_set}
use Rattle.esm_lanes.specs.Piece.{lane_at, after_shorten}
use Rattle.esm_shard_index.specs.LaneView.{after_rest}
use Rattle.esm_shard_index.proofs.LaneTables.{twice}
use Rattle.esm_shard_index.proofs.lane_end.end_batch.Goals as goal

pub returns : goal.returns
returns c =
    let done = c.min-done.result in
    twice c.args.lanes.now c.shorten.new.self c.end_rest.new.lanes c.args.lane (after_shorten done) (after_rest c.args.verdict.rest (c.args.count - done)) c.requires.known c.shorten.ensures.lane c.end_rest.ensures
    ∙ ap (λ n. slice_set c.args.lanes.now c.args.lane (after_rest c.args.verdict.rest (c.args.count - n) (after_shorten n (lane_at c.args.lanes.now c.args.lane)))) c.min-done.ensures
