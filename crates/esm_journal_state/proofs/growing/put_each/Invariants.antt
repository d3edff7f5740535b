use Rattle.std.proofs.Common.{◌≡◌, ℕ, length}
use Rattle.std.specs.Vec.Iter.{into_iter_items, into_iter_len}
use Rattle.esm_journal_state.specs.Growing.{fate_with}
use Rattle.esm_journal_state.proofs.growing.put_each.Given as goal

abbrev pub invariant-loop-entry : goal.invariant-loop-entry
invariant-loop-entry l = record {
  left : into_iter_len l.entry-iterator ≡ length (into_iter_items l.entry-iterator);
  kept : (n i : ℕ) → fate_with l.fates (into_iter_items l.entry-iterator) n i ≡ fate_with l.initial.fates l.fn.recent.items n i;
}
