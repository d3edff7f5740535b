use Rattle.std.proofs.Common.{take}
use Rattle.std.specs.List.{All}
use Rattle.esm_gen.specs.Function.{IsFunction}
use Rattle.esm_gen.proofs.function.all_keep.Given as goal

abbrev pub invariant-loop-caller : goal.invariant-loop-caller
invariant-loop-caller l = All IsFunction (take l.caller-index l.callers)
