use Rattle.std.proofs.Common.{◌≡◌, ◌≤◌, length}
use Rattle.std.specs.Prelude.{filter}
use Rattle.esm_model.specs.Fates.{below, is_fate}
use Rattle.esm_redrive_run.specs.Report.{message_fate}
use Rattle.esm_redrive_run.proofs.report.Deletions.count_with.Given as goal

abbrev pub invariant-loop-place : goal.invariant-loop-place
invariant-loop-place l = record {
  few : l.total ≤ l.place;
  counts : l.total ≡ length (filter (λ i. is_fate l.fate (message_fate l.self i)) (below l.place));
}
