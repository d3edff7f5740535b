use Rattle.std.proofs.Common.{refl}
use Rattle.esm_lanes.specs.Piece.{lane_at}
use Rattle.esm_shard_index.proofs.LaneTables.{no_front}
use Rattle.esm_shard_index.proofs.lane_end.front_tries_of.Goals as goal

pub returns-in-None : goal.returns-in-None
returns-in-None c = no_front (lane_at c.args.lanes.now c.args.lane).pieces c.front.ensures.filled (c.in-None.ensures.none.0 refl)
