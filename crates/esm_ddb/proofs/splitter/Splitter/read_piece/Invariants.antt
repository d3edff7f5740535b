use Rattle.std.proofs.Common.{length}
use Rattle.esm_ddb.specs.States.{state_of}
use Rattle.esm_ddb.proofs.Steps.{Goes}
use Rattle.esm_ddb.proofs.splitter.Splitter.read_piece.Given as goal

abbrev pub invariant-loop-line : goal.invariant-loop-line
invariant-loop-line l = Goes l.fn.piece l.fn.out.items (state_of l.fn.self) l.rest l.out.items (state_of l.self)

abbrev pub decreases-loop-line : goal.decreases-loop-line
decreases-loop-line l = length l.rest
