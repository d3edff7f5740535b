use Rattle.std.proofs.Common.{◌≡◌, ◌++◌, None, length}
use Rattle.std.specs.Vec.Iter.{into_iter_items, into_iter_len}
use Rattle.esm_replay.specs.Ranges.{all_reaching, last_range}
use Rattle.esm_replay.proofs.ranges.all_reaching.Given as goal

abbrev pub invariant-loop-range : goal.invariant-loop-range
invariant-loop-range l = record {
  so_far : l.all.items ++ all_reaching (last_range l.all.items) (into_iter_items l.range-iterator) ≡ all_reaching None (into_iter_items l.initial.range-iterator);
  left : into_iter_len l.range-iterator ≡ length (into_iter_items l.range-iterator);
}
