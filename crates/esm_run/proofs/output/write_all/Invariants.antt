use Rattle.std.proofs.Common.{◌-◌, ◌≤◌, length, take}
use Rattle.esm_io.specs.Told.{Grows}
use Rattle.esm_run.proofs.output.write_all.Given as goal

abbrev pub invariant-loop-at : goal.invariant-loop-at
invariant-loop-at g l = (l.at ≤ length l.text) × Grows (g.K.Sink.written l.fn.out) (g.K.Sink.written l.out) (take l.at l.text)
    × (g.K.Sink.faults l.fn.out ≤ g.K.Sink.faults l.out)

abbrev pub decreases-loop-at : goal.decreases-loop-at
decreases-loop-at g l = length l.text - l.at
