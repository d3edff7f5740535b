use Rattle.std.proofs.Common.{◌≡◌, ◌≤◌, drop}
use Rattle.esm_window.specs.Scan.{marks, last_state, outside}
use Rattle.esm_window.specs.Marks.{part_of, finds, IsBefore}
use Rattle.esm_window.proofs.marks.last_state.Given as goal

abbrev pub invariant-loop-place : goal.invariant-loop-place
invariant-loop-place l = record { shallow : l.depth ≤ l.place; before : IsBefore l.place l.scan; found : last_state l.body (marks outside 0 0 l.body) ≡ finds l.body l.scan (marks (part_of l.part) l.depth l.place (drop l.place l.body)) }
