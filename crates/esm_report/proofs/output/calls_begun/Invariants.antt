use Rattle.std.proofs.Common.{◌≡◌, ◌≤◌, take}
use Rattle.std.specs.Prelude.{reverse}
use Rattle.esm_model.specs.Entries.{calls_begun}
use Rattle.esm_report.proofs.output.calls_begun.Given as goal

abbrev pub invariant-loop-entry : goal.invariant-loop-entry
invariant-loop-entry l = record {
  few : l.calls ≤ l.entry-index;
  counts : l.calls ≡ calls_begun (reverse (take l.entry-index l.trace));
}
