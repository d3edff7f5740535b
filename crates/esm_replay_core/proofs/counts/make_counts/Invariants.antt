use Rattle.std.proofs.Common.{IfSome, IsSome, take}
use Rattle.std.specs.Ordering.{nat_cmp}
use Rattle.std.specs.BTreeMap.{get}
use Rattle.std.specs.List.{All}
use Rattle.esm_replay_core.specs.Counts.{IsRecounted, HasCount}
use Rattle.esm_replay_core.proofs.counts.make_counts.Given as goal

abbrev pub invariant-loop-item : goal.invariant-loop-item
invariant-loop-item l = record {
  same : IsRecounted l.initial.counts l.counts;
  there : All (HasCount l.counts) (take l.item-index l.items);
  last : IfSome l.last (λ q. IsSome (get nat_cmp l.counts q));
}
