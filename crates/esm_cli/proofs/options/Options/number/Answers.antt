use Rattle.std.proofs.Common.{arith}
use Rattle.esm_cli.specs.Clap.{values_found}
use Rattle.esm_cli.proofs.Refused.{outside}
use Rattle.esm_cli.proofs.options.Options.number.Goals as goal

pub returns-in_default-whole_number-clause-bad : goal.returns-in_default-whole_number-clause-bad
returns-in_default-whole_number-clause-bad c = λ err m is.
    outside c.args.rule (values_found c.args.self.now.matches c.args.rule.option) c.in-Some.text.now c.in-Some-whole_number.n m c.in-Some.ensures
    c.in-Some-whole_number.ensures.some (omega arith) (omega arith) (λ above below. omega arith) is

pub returns-in_default-whole_number-2-clause-bad : goal.returns-in_default-whole_number-2-clause-bad
returns-in_default-whole_number-2-clause-bad c = λ err m is.
    outside c.args.rule (values_found c.args.self.now.matches c.args.rule.option) c.in-Some.text.now c.in-Some-whole_number.n m c.in-Some.ensures
    c.in-Some-whole_number.ensures.some (omega arith) (omega arith) (λ above below. omega arith) is
