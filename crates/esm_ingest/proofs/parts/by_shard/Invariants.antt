use Rattle.std.proofs.Common.{◌≡◌, ◌++◌, map, length}
use Rattle.std.specs.Vec.Iter.{into_iter_items, into_iter_len}
use Rattle.esm_ledger.specs.Ledger.{past_of, setting_of}
use Rattle.esm_ingest.specs.Parts.{part, parts_of}
use Rattle.esm_ingest.specs.Inside.{stream_in, AllFit, next_of_stream}
use Rattle.esm_ingest.proofs.parts.by_shard.Given as goal

abbrev pub invariant-loop-group : goal.invariant-loop-group
invariant-loop-group l = record {
  so_far : map part l.parts.items ++ map (next_of_stream (setting_of l.ledger) (past_of l.ledger)) (map stream_in (into_iter_items l.group-iterator)) ≡ parts_of (setting_of l.ledger) (past_of l.ledger) l.fn.items.items;
  fit : AllFit (past_of l.ledger) (map stream_in (into_iter_items l.group-iterator));
  left : into_iter_len l.group-iterator ≡ length (into_iter_items l.group-iterator);
}
