use Rattle.std.proofs.Common.{◌≡◌, ◌+◌, ◌≤◌, take}
use Rattle.std.specs.List.{suffix_len}
use Rattle.esm_window.specs.Scan.{is_space}
use Rattle.esm_window.proofs.state.spaces_before.Given as goal

abbrev pub invariant-loop-at : goal.invariant-loop-at
invariant-loop-at l = record { within : l.at ≤ l.end; counted : suffix_len is_space (take l.end l.text) + l.at ≡ l.end + suffix_len is_space (take l.at l.text) }

abbrev pub decreases-loop-at : goal.decreases-loop-at
decreases-loop-at l = l.at
