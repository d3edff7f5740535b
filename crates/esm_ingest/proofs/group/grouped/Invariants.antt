use Rattle.std.proofs.Common.{◌≡◌, [], ℕ, map, length, Some}
use Rattle.std.specs.Prelude.{IfSome}
use Rattle.std.specs.Ordering.{nat_cmp}
use Rattle.std.specs.BTreeMap.{get}
use Rattle.std.specs.Vec.Iter.{into_iter_items, into_iter_len}
use Rattle.esm_ingest.specs.declared.group.Run.{Run}
use Rattle.esm_ingest.specs.Coming.{with_records}
use Rattle.esm_ingest.specs.Inside.{stream_in, names_in, place_in}
use Rattle.esm_ingest.proofs.group.grouped.Given as goal

abbrev pub invariant-loop-item : goal.invariant-loop-item
invariant-loop-item l = record {
  index : (n : ℕ) → get nat_cmp l.index n ≡ place_in (names_in l.groups.items) n;
  run : IfSome l.last (λ (r : Run). get nat_cmp l.index r.shard ≡ Some r.at);
  so_far : with_records (map stream_in l.groups.items) (into_iter_items l.item-iterator) ≡ with_records [] l.fn.items.items;
  left : into_iter_len l.item-iterator ≡ length (into_iter_items l.item-iterator);
}
