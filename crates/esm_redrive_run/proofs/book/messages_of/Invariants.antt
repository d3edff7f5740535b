use Rattle.std.proofs.Common.{◌≡◌, ◌++◌, length}
use Rattle.std.specs.Prelude.{All}
use Rattle.std.specs.Vec.Iter.{into_iter_items, into_iter_len}
use Rattle.esm_queue_book.specs.Coming.{IsMessage, messages_in_items}
use Rattle.esm_redrive_run.proofs.book.messages_of.Given as goal

abbrev pub invariant-loop-item : goal.invariant-loop-item
invariant-loop-item l = record {
  all : All IsMessage (into_iter_items l.item-iterator);
  so_far : l.messages.items ++ messages_in_items (into_iter_items l.item-iterator) ≡ messages_in_items (into_iter_items l.initial.item-iterator);
  left : into_iter_len l.item-iterator ≡ length (into_iter_items l.item-iterator);
}
