use Rattle.std.proofs.Common.{◌≡◌, map, take}
use Rattle.std.specs.List.{All}
use Rattle.esm_folder.specs.Shown.{IsShard, shard_of}
use Rattle.esm_folder.proofs.summary.shard_summaries.Given as goal

abbrev pub invariant-loop-shard : goal.invariant-loop-shard
invariant-loop-shard l = record { shards : map shard_of l.summaries.items ≡ take l.shard-index l.shards; numbers : All (IsShard l.says) l.summaries.items }
