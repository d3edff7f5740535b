use Rattle.std.proofs.Common.{◌≡◌, ◌++◌, drop, map}
use Rattle.std.specs.List.{filter_map}
use Rattle.esm_trace.specs.Onward.{AreLeft}
use Rattle.esm_trace.specs.Trace.{reply_in}
use Rattle.esm_trace.proofs.replies.in_order.Given as goal

abbrev pub invariant-loop-entry : goal.invariant-loop-entry
invariant-loop-entry l = record {
  left : AreLeft l.batchers l.shards.items (map (λ list. list.items) l.left.items) (drop l.entry-index l.history);
  told : l.replies.items ++ filter_map reply_in (drop l.entry-index l.history) ≡ filter_map reply_in l.history;
}
