use Rattle.std.proofs.Common.{◌≡◌, ◌-◌, ◌≤◌, ◌++◌, drop, length}
use Rattle.esm_model.specs.Numbers.{last_digits}
use Rattle.esm_event.proofs.digits.push_few_digits.Given as goal

abbrev pub invariant-loop-at : goal.invariant-loop-at
invariant-loop-at l =
    (l.first ≤ l.at) × (l.at ≤ 20) × (last_digits l.base l.width l.number ≡ last_digits l.base (l.at - l.first) l.rest ++ drop l.at l.digits) × (length l.digits ≡ 20)

abbrev pub decreases-loop-at : goal.decreases-loop-at
decreases-loop-at l = l.at
