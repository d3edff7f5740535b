use Rattle.std.proofs.Common.{leb, rules}
use Rattle.std.proofs.lemmas.List.Sorted.{IsPartitionPoint-from_clause, IsPartitionedBy-leb}
use Rattle.esm_shard_index.proofs.arrivals.runs_up_to.Goals as goal

pub returns-clause-point : goal.returns-clause-point
returns-clause-point c =
    let parted = IsPartitionedBy-leb (λ r. r.first) _ c.args.place c.requires.rising in
    IsPartitionPoint-from_clause (λ r. leb r.first c.args.place) _ _ c.partition_point.ensures.partitioned parted (λ a r q k. search rules)
