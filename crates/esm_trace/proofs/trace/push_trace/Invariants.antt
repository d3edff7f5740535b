use Rattle.std.proofs.Common.{◌≡◌, ◌++◌, take, length}
use Rattle.std.specs.List.{flat_map, filter_map}
use Rattle.esm_trace.specs.Trace.{entry_line, reply_in}
use Rattle.esm_trace.proofs.trace.push_trace.Given as goal

abbrev pub invariant-loop-entry : goal.invariant-loop-entry
invariant-loop-entry l = record {
  text : l.out.items ≡ l.fn.out.items ++ flat_map (entry_line l.kind) (take l.entry-index l.history);
  told : l.told ≡ length (filter_map reply_in (take l.entry-index l.history));
}
