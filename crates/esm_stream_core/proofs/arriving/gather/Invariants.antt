use Rattle.std.proofs.Common.{◌≡◌, ℕ, map, length}
use Rattle.std.specs.Vec.Iter.{into_iter_items, into_iter_len}
use Rattle.esm_ledger.specs.Ledger.{HasRoom, HasShardRoom}
use Rattle.esm_ingest.specs.Parts.{part}
use Rattle.esm_stream_core.specs.Kept.{IsSame}
use Rattle.esm_stream_core.proofs.Parts.{IsHalf}
use Rattle.esm_stream_core.proofs.arriving.gather.Given as goal

abbrev pub invariant-loop-next : goal.invariant-loop-next
invariant-loop-next l = record {
  same : IsSame l.fn.ledger l.ledger;
  room : (n : ℕ) → HasRoom l.fn.ledger n → HasRoom l.ledger n;
  shards : (n : ℕ) → HasShardRoom l.fn.ledger n → HasShardRoom l.ledger n;
  half : IsHalf l.ledger l.moment (map part l.fn.parts.items) (map part (into_iter_items l.next-iterator)) l.gathered;
  left : into_iter_len l.next-iterator ≡ length (into_iter_items l.next-iterator);
}
