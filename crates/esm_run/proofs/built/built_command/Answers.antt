use Rattle.std.proofs.Common.{◌∙◌, map, sym}
use Rattle.std.specs.String.{string_bytes}
use Rattle.esm_run.proofs.BuiltLemmas.{none_built}
use Rattle.esm_run.proofs.built.built_command.Goals as goal

pub returns-else-is_built-clause-bad : goal.returns-else-is_built-clause-bad
returns-else-is_built-clause-bad c = λ bad.
    none_built (map string_bytes c.args.words.now) c.in-Ok.command c.one_command.ensures c.in-Ok.ensures.spelled (sym c.is_built.ensures ∙ c.if-is_built.false)

pub returns-in-Err-clause-bad : goal.returns-in-Err-clause-bad
returns-in-Err-clause-bad c = λ bad d is. c.in-Err.ensures.bad bad d is.0
