use Rattle.std.proofs.Common.{◌≡◌}
use Rattle.esm_gen.specs.Generated.{generated_lines}
use Rattle.esm_gen.proofs.lines.generated_lines.Given as goal

abbrev pub invariant-loop-number : goal.invariant-loop-number
invariant-loop-number l = l.out.items ≡ generated_lines l.number
