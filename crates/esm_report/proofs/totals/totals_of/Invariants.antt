use Rattle.std.proofs.Common.{take}
use Rattle.std.specs.Prelude.{reverse}
use Rattle.esm_report.specs.Totals.{IsTotal}
use Rattle.esm_report.proofs.totals.totals_of.Given as goal

abbrev pub invariant-loop-entry : goal.invariant-loop-entry
invariant-loop-entry l = IsTotal l.totals (reverse (take l.entry-index l.trace))
