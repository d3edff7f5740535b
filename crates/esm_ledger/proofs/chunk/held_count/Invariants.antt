use Rattle.std.proofs.Common.{◌≡◌, ◌≤◌, take, is_some}
use Rattle.std.specs.List.{count_by}
use Rattle.esm_ledger.proofs.chunk.held_count.Given as goal

abbrev pub invariant-loop-slot : goal.invariant-loop-slot
invariant-loop-slot l = record {
  count : l.count ≡ count_by is_some (take l.slot-index l.slots);
  low : l.count ≤ l.slot-index;
}
