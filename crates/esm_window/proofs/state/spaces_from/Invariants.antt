use Rattle.std.proofs.Common.{◌≡◌, ◌+◌, ◌-◌, ◌≤◌, length, drop}
use Rattle.std.specs.List.{prefix_len}
use Rattle.esm_window.specs.Scan.{is_space}
use Rattle.esm_window.proofs.state.spaces_from.Given as goal

abbrev pub invariant-loop-at : goal.invariant-loop-at
invariant-loop-at l = record { after : l.start ≤ l.at; within : l.at ≤ length l.text; counted : prefix_len is_space (drop l.start l.text) + l.start ≡ l.at + prefix_len is_space (drop l.at l.text) }

abbrev pub decreases-loop-at : goal.decreases-loop-at
decreases-loop-at l = length l.text - l.at
