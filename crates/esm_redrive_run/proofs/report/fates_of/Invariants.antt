use Rattle.std.proofs.Common.{take}
use Rattle.std.specs.Prelude.{reverse}
use Rattle.esm_report.specs.Counts.{AreGiven}
use Rattle.esm_redrive_run.proofs.report.fates_of.Given as goal

abbrev pub invariant-loop-entry : goal.invariant-loop-entry
invariant-loop-entry l = AreGiven l.fates (reverse (take l.entry-index l.trace))
