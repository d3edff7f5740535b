use Rattle.std.proofs.Common.{◌≡◌, ◌+◌, ◌++◌, length, drop}
use Rattle.std.specs.Vec.Iter.{into_iter_items, into_iter_len}
use Rattle.esm_journal_state.specs.Growing.{fates_named}
use Rattle.esm_journal_state.proofs.growing.push_fates.Given as goal

abbrev pub invariant-loop-text : goal.invariant-loop-text
invariant-loop-text l = record {
  left : into_iter_len l.text-iterator ≡ length (into_iter_items l.text-iterator);
  rest : l.index + length (into_iter_items l.text-iterator) ≡ length l.places;
  pushed : l.recent.items ++ fates_named l.shard l.fate (drop l.index l.places) (into_iter_items l.text-iterator) ≡ l.initial.recent.items ++ fates_named l.shard l.fate l.places l.fn.texts.items;
}
