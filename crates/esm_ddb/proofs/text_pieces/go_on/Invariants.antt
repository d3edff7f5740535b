use Rattle.std.proofs.Common.{◌≡◌, ◌≤◌, ◌++◌, drop, length}
use Rattle.std.specs.List.{concat}
use Rattle.esm_ddb.proofs.text_pieces.go_on.Given as goal

abbrev pub invariant-loop-at : goal.invariant-loop-at
invariant-loop-at l = record {
  same : drop l.at l.first ++ concat l.others.items ≡ drop l.initial.at l.initial.first ++ concat l.initial.others.items;
  within : l.at ≤ length l.first;
}

abbrev pub decreases-loop-at : goal.decreases-loop-at
decreases-loop-at l = length l.others.items
