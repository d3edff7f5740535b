use Rattle.std.proofs.Common.{arith}
use Rattle.esm.proofs.Ports.{past_ports}
use Rattle.esm.proofs.functions.port.Goals as goal

pub returns-in_default-clause-none : goal.returns-in_default-clause-none
returns-in_default-clause-none c = λ port fits is.
    past_ports c.in-Some.number port c.args.word.now (omega arith) (omega arith) c.in-Some.ensures.some fits is
