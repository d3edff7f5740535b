-- Lanes. Source: the Lambda Developer Guide, event source mappings for Kinesis, `ParallelizationFactor`
-- (records of one partition key stay in order); that the lane is the MD5 of the key modulo the factor follows
-- the Kinesis API, which maps keys by MD5.
use Rattle.std.specs.Prelude.{ℕ, ◌%◌, Bool, List, ◌==◌, ◌&&◌}
use Rattle.std.specs.Int.{w128, from_be_bytes}
use Rattle.md5.specs.Md5.{md5}
use Rattle.esm_model.specs.declared.lane.LaneId.{LaneId}

-- the MD5 of the key as a 128-bit big-endian number, modulo the factor
abbrev pub lane_of : List ℕ → ℕ → ℕ
lane_of key factor = from_be_bytes w128 (md5 key) % factor

abbrev pub same_lane : LaneId → LaneId → Bool
same_lane a b = (a.shard == b.shard) && (a.lane == b.lane)
