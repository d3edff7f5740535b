use Rattle.std.proofs.Common.{◌≡◌, ◌++◌, drop}
use Rattle.esm_io.specs.Crashes.{arrived}
use Rattle.esm_io.proofs.crash.arrived.Given as goal

-- the bytes so far and those of the rest are those of all
abbrev pub invariant-loop-place : goal.invariant-loop-place
invariant-loop-place l = l.left.items ++ arrived l.choice l.place l.unarrived (drop l.place l.bytes) ≡ arrived l.choice 0 l.kept l.bytes
