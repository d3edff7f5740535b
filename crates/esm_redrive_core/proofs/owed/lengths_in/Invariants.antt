use Rattle.std.proofs.Common.{◌≡◌, ◌≤◌, drop, reverse, length}
use Rattle.esm_book.specs.Decided.{lengths_of}
use Rattle.esm_redrive_core.specs.Kept.{payloads_in}
use Rattle.esm_redrive_core.proofs.owed.lengths_in.Given as goal

abbrev pub invariant-loop-index : goal.invariant-loop-index
invariant-loop-index l = record {
  within : l.index ≤ length l.gifts;
  told : l.lengths.items ≡ lengths_of (payloads_in (reverse (drop l.index l.gifts)));
}

abbrev pub decreases-loop-index : goal.decreases-loop-index
decreases-loop-index l = l.index
