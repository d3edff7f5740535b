use Rattle.std.proofs.Common.{◌≡◌, ◌+◌, drop}
use Rattle.esm_trace.proofs.Order.{place}
use Rattle.esm_trace.proofs.batchers.index_of.Given as goal

abbrev pub invariant-loop-found : goal.invariant-loop-found
invariant-loop-found l = record {
  counted : l.index ≡ l.found-index;
  place_is : place l.shard l.shards ≡ l.found-index + place l.shard (drop l.found-index l.shards);
}
