use Rattle.std.proofs.Common.{◌≡◌, ◌+◌, ◌≤◌, ◌++◌, drop, map, is_none, length}
use Rattle.std.specs.Vec.Iter.{into_iter_items, into_iter_len}
use Rattle.esm_ledger.proofs.records.Records.came.Given as goal

abbrev pub invariant-loop-item : goal.invariant-loop-item
invariant-loop-item l = record {
  items : l.self.items ++ into_iter_items l.item-iterator ≡ l.initial.self.items ++ l.fn.records.items;
  held : l.self.held ++ map is_none (drop l.at l.fates) ≡ l.initial.self.held ++ map is_none l.fates;
  count : l.at + length (into_iter_items l.item-iterator) ≡ length l.fates;
  room : length (into_iter_items l.item-iterator) ≤ l.self.room;
  left : into_iter_len l.item-iterator ≡ length (into_iter_items l.item-iterator);
}
