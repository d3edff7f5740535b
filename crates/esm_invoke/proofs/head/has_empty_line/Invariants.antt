use Rattle.std.proofs.Common.{◌≡◌, ℕ, ◌<◌, ◌≤◌, false}
use Rattle.esm_invoke.specs.ResponseRead.{ends_empty_line}
use Rattle.esm_invoke.proofs.head.has_empty_line.Given as goal

abbrev pub invariant-loop-at : goal.invariant-loop-at
invariant-loop-at l = (k : ℕ) → l.from ≤ k → k < l.at → ends_empty_line l.bytes k ≡ false
