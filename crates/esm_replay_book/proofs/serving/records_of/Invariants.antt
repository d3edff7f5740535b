use Rattle.std.proofs.Common.{◌≡◌, ◌++◌, length}
use Rattle.std.specs.Prelude.{All}
use Rattle.std.specs.Vec.Iter.{into_iter_items, into_iter_len}
use Rattle.esm_replay_book.specs.Serving.{IsRecord, records_in_items}
use Rattle.esm_replay_book.proofs.serving.records_of.Given as goal

abbrev pub invariant-loop-item : goal.invariant-loop-item
invariant-loop-item l = record {
  all : All IsRecord (into_iter_items l.item-iterator);
  so_far : l.records.items ++ records_in_items (into_iter_items l.item-iterator) ≡ records_in_items (into_iter_items l.initial.item-iterator);
  left : into_iter_len l.item-iterator ≡ length (into_iter_items l.item-iterator);
}
