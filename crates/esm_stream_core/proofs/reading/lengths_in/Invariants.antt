use Rattle.std.proofs.Common.{◌≡◌, ◌≤◌, drop, reverse, length}
use Rattle.esm_book.specs.Decided.{lengths_of}
use Rattle.esm_stream_core.specs.Acts.{payloads_in}
use Rattle.esm_stream_core.proofs.reading.lengths_in.Given as goal

abbrev pub invariant-loop-index : goal.invariant-loop-index
invariant-loop-index l = record {
  within : l.index ≤ length l.owed;
  told : l.lengths.items ≡ lengths_of (payloads_in (reverse (drop l.index l.owed)));
}

abbrev pub decreases-loop-index : goal.decreases-loop-index
decreases-loop-index l = l.index
