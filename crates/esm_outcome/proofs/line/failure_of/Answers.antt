use Rattle.std.proofs.Common.{◌-◌, length, arith}
use Rattle.esm_outcome.proofs.Lines.{left_came, left_open, left_few}
use Rattle.esm_outcome.proofs.line.failure_of.Goals as goal

pub edge_of-requires-clause-came : goal.edge_of-requires-clause-came
edge_of-requires-clause-came c =
    let some = c.requires.some in
    left_came c.args.ledger.now c.args.lane c.args.left.now 0 c.requires.kept c.requires.rest (omega (arith, some))

pub edge_of-requires-clause-open : goal.edge_of-requires-clause-open
edge_of-requires-clause-open c =
    let some = c.requires.some in
    left_open c.args.ledger.now c.args.lane c.args.left.now 0 c.requires.kept c.requires.rest (omega (arith, some))

pub edge_of-requires-2-clause-open : goal.edge_of-requires-2-clause-open
edge_of-requires-2-clause-open c =
    let some = c.requires.some in
    left_open c.args.ledger.now c.args.lane c.args.left.now (length c.args.left.now - 1) c.requires.kept c.requires.rest (omega (arith, some))

pub edge_of-requires-2-clause-came : goal.edge_of-requires-2-clause-came
edge_of-requires-2-clause-came c =
    let some = c.requires.some in
    left_came c.args.ledger.now c.args.lane c.args.left.now (length c.args.left.now - 1) c.requires.kept c.requires.rest (omega (arith, some))

pub overflow_cast-result : goal.overflow_cast-result
overflow_cast-result c =
    let few = left_few c.args.ledger.now c.args.lane c.args.left.now c.requires.kept c.requires.rest in
    omega (arith, few)

pub calls_of-requires-clause-came : goal.calls_of-requires-clause-came
calls_of-requires-clause-came c =
    let some = c.requires.some in
    left_came c.args.ledger.now c.args.lane c.args.left.now 0 c.requires.kept c.requires.rest (omega (arith, some))
