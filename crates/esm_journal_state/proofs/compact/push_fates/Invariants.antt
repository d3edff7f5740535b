use Rattle.std.proofs.Common.{◌≡◌, ◌++◌}
use Rattle.std.specs.Prelude.{map}
use Rattle.std.specs.Vec.Iter.{into_iter_items}
use Rattle.esm_journal_state.specs.Compact.{fates_of}
use Rattle.esm_journal_state.proofs.compact.push_fates.Given as goal

abbrev pub invariant-loop-piece : goal.invariant-loop-piece
invariant-loop-piece l = l.saids.items ++ map (fates_of l.moment) (into_iter_items l.piece-iterator) ≡ l.initial.saids.items ++ map (fates_of l.moment) l.fn.pieces.items
