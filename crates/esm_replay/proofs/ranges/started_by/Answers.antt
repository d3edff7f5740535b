use Rattle.std.proofs.Common.{rules}
use Rattle.std.proofs.lemmas.List.Sorted.{IsPartitionPoint-from_clause}
use Rattle.esm_replay.specs.Ranges.{starts_by}
use Rattle.esm_replay.proofs.Finding.{parted}
use Rattle.esm_replay.proofs.ranges.started_by.Goals as goal

pub returns-clause-point : goal.returns-clause-point
returns-clause-point c =
    IsPartitionPoint-from_clause (starts_by (c.args.shard, c.args.number.now)) _ _ c.partition_point.ensures.partitioned
    (parted (c.args.shard, c.args.number.now) c.args.ranges.now c.requires.lead) (λ a r q k. search rules)
