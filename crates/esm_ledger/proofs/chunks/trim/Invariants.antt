use Rattle.std.proofs.Common.{◌≡◌, ◌+◌, ◌*◌, ◌≤◌, length}
use Rattle.std.specs.List.{All}
use Rattle.std.specs.VecDeque.{deque_len, deque_capacity}
use Rattle.esm_ledger.specs.Chunks.{IsWhole, places_in}
use Rattle.esm_ledger.proofs.chunks.trim.Given as goal

abbrev pub invariant-loop-chunks : goal.invariant-loop-chunks
invariant-loop-chunks l = record {
  few : l.base + 16 * length l.chunks.items ≤ 18446744073709551615;
  whole : All IsWhole l.chunks.items;
  places : places_in l.base l.chunks.items ≡ places_in l.initial.base l.initial.chunks.items;
  len : deque_len l.chunks ≤ deque_len l.initial.chunks;
  capacity : deque_capacity l.chunks ≡ deque_capacity l.initial.chunks;
}

abbrev pub decreases-loop-chunks : goal.decreases-loop-chunks
decreases-loop-chunks l = length l.chunks.items
