use Rattle.std.proofs.Common.{◌≡◌, ◌+◌, ◌-◌, ◌≤◌, drop, length, option_map}
use Rattle.esm_ddb.specs.FailureLine.{first_place, stream_part}
use Rattle.esm_ddb.proofs.failure_line.first_place.Given as goal

abbrev pub invariant-loop-at : goal.invariant-loop-at
invariant-loop-at l = record {
  place : first_place stream_part l.line ≡ option_map (λ k. l.at + k) (first_place stream_part (drop l.at l.line));
  within : l.at ≤ length l.line;
}

abbrev pub decreases-loop-at : goal.decreases-loop-at
decreases-loop-at l = length l.line - l.at
