use Rattle.std.proofs.Common.{◌≡◌, ◌+◌, drop}
use Rattle.esm_replay_model.specs.ReplayReport.{replayed_in}
use Rattle.esm_replay_run.proofs.report.replayed_in.Given as goal

abbrev pub invariant-loop-entry : goal.invariant-loop-entry
invariant-loop-entry l = l.count + replayed_in (drop l.entry-index l.trace) ≡ replayed_in l.trace
