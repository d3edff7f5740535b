use Rattle.std.proofs.Common.{◌≡◌, ◌+◌, ◌≤◌, ◌++◌, length, map, reverse, vec_len, vec_capacity}
use Rattle.esm_recorder.specs.Recorder.{new_recorder}
use Rattle.esm_recorder.proofs.recorders.record.Given as goal

abbrev pub invariant-loop-caller : goal.invariant-loop-caller
invariant-loop-caller g l =
    (vec_len l.recorders + length l.callers.items ≤ vec_capacity l.recorders)
    × (map (new_recorder l.keeps) l.callers.items ++ reverse l.recorders.items ≡ map (new_recorder l.keeps) l.fn.callers.items)
    × (vec_capacity l.callers ≡ vec_capacity l.fn.callers)

abbrev pub decreases-loop-caller : goal.decreases-loop-caller
decreases-loop-caller g l = length l.callers.items
