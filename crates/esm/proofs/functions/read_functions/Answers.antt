use Rattle.std.proofs.Common.{arith}
use Rattle.esm.proofs.Ports.{zero_names_nothing}
use Rattle.esm.proofs.functions.read_functions.Goals as goal

pub returns-then-port-lt-LEAST_PORT-clause-none : goal.returns-then-port-lt-LEAST_PORT-clause-none
returns-then-port-lt-LEAST_PORT-clause-none c = zero_names_nothing c.in_ok-port.port c.args.word.now (omega arith) c.in_ok-port.ensures.some
