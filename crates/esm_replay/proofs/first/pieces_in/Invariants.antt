use Rattle.std.proofs.Common.{◌≡◌, ◌++◌}
use Rattle.esm_replay.specs.Waiting.{pieces_in}
use Rattle.esm_replay.proofs.first.pieces_in.Given as goal

abbrev pub invariant-loop-shard : goal.invariant-loop-shard
invariant-loop-shard l = l.waiting.pieces ++ pieces_in l.shard-iterator ≡ pieces_in l.rows.entries
