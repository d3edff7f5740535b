use Rattle.std.proofs.Common.{◌∙◌, ap, sym, min, slice_set}
use Rattle.esm_lanes.specs.Piece.{lane_at}
use Rattle.esm_shard_index.specs.LaneView.{set_apart, after_rest}
use Rattle.esm_shard_index.proofs.LaneTables.{twice}
use Rattle.esm_shard_index.proofs.lane_end.end_rest.Goals as goal

pub returns-in-Split : goal.returns-in-Split
returns-in-Split c =
    let old = c.args.lanes.now in
    let tries = c.front_tries_of-tries-in-Split.result in
    twice old c.split_off-in-Split.new.lanes c.split_off-in-Split-2.new.lanes c.args.lane (set_apart c.args.left tries) (set_apart c.min-in-Split.result tries) c.requires.known c.split_off-in-Split.ensures c.split_off-in-Split-2.ensures
    ∙ ap (λ n. slice_set c.args.lanes.now c.args.lane (set_apart n c.front_tries_of-tries-in-Split.result (set_apart c.args.left c.front_tries_of-tries-in-Split.result (lane_at c.args.lanes.now c.args.lane)))) c.min-in-Split.ensures
    ∙ ap (λ t. slice_set c.args.lanes.now c.args.lane (set_apart (min c.in-Split.first c.args.left) t (set_apart c.args.left t (lane_at c.args.lanes.now c.args.lane)))) c.front_tries_of-tries-in-Split.ensures
    ∙ ap (λ r. slice_set c.args.lanes.now c.args.lane (after_rest r c.args.left (lane_at c.args.lanes.now c.args.lane))) (sym c.in-Split.is)
