use Rattle.std.proofs.Common.{◌≡◌, ◌++◌}
use Rattle.std.specs.List.{flat_map}
use Rattle.esm_report.specs.Totals.{total_line, total_lines}
use Rattle.esm_report.proofs.output.push_totals.Given as goal

abbrev pub invariant-loop-shard : goal.invariant-loop-shard
invariant-loop-shard l = l.out.items ++ flat_map (total_line l.said l.totals) l.shard-iterator ≡ l.initial.out.items ++ total_lines l.said l.totals
