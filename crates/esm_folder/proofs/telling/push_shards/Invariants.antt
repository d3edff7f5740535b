use Rattle.std.proofs.Common.{◌≡◌, ◌++◌, drop}
use Rattle.esm_folder.specs.UpkeepText.{shard_lines}
use Rattle.esm_folder.proofs.telling.push_shards.Given as goal

abbrev pub invariant-loop-shard : goal.invariant-loop-shard
invariant-loop-shard l = l.out.items ++ shard_lines (drop l.shard-index l.shards) ≡ l.initial.out.items ++ shard_lines l.shards
