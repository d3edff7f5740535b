-- One more line of a generated stream.
use Rattle.std.proofs.Common.{◌≡◌, ℕ, ◌+◌, ◌++◌, arith}
use Rattle.std.proofs.lemmas.Grind.{common_steps}
use Rattle.esm_gen.specs.Generated.{generated_record, generated_lines, input_line}

pub one_more : (n : ℕ) → generated_lines (n + 1) ≡ generated_lines n ++ input_line (generated_record n)
one_more n = grind (arith, common_steps)
