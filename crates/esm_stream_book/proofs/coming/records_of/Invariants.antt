use Rattle.std.proofs.Common.{◌≡◌, ◌++◌, length}
use Rattle.std.specs.Vec.Iter.{into_iter_items, into_iter_len}
use Rattle.esm_stream_book.specs.Items.{records_in_items}
use Rattle.esm_stream_book.proofs.coming.records_of.Given as goal

abbrev pub invariant-loop-item : goal.invariant-loop-item
invariant-loop-item l = record {
  so_far : l.records.items ++ records_in_items (into_iter_items l.item-iterator) ≡ records_in_items l.fn.items.items;
  left : into_iter_len l.item-iterator ≡ length (into_iter_items l.item-iterator);
}
