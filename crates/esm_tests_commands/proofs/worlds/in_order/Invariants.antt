use Rattle.esm_io.specs.Script.{HasNoLost}
use Rattle.esm_io.specs.declared.script.Script.TheVariants.{Each}
use Rattle.esm_tests_commands.proofs.worlds.in_order.Given as goal

abbrev pub invariant-loop-answer : goal.invariant-loop-answer
invariant-loop-answer l = HasNoLost (Each l.replies)
