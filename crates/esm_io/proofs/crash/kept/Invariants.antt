use Rattle.std.proofs.Common.{◌≡◌, length, reverse}
use Rattle.esm_io.specs.Steps.{AreSteps}
use Rattle.esm_io.specs.Crashes.{kept_of}
use Rattle.esm_io.proofs.crash.kept.Given as goal

-- what the rest of the steps kept is what all of them did
abbrev pub invariant-loop-step : goal.invariant-loop-step
invariant-loop-step l =
    AreSteps l.kept.items (reverse l.rest) × (kept_of l.kept.items (reverse l.rest) ≡ kept_of l.bytes (reverse l.steps))

abbrev pub decreases-loop-step : goal.decreases-loop-step
decreases-loop-step l = length l.rest
