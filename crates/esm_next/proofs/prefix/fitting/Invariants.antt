use Rattle.std.proofs.Common.{◌≡◌}
use Rattle.esm_next.specs.Steps.{IsTaken}
use Rattle.esm_next.proofs.prefix.fitting.Given as goal

abbrev pub invariant-loop-item : goal.invariant-loop-item
invariant-loop-item l = (l.count ≡ l.item-index) × IsTaken l.limits l.now l.window l.items l.item-index l.used
