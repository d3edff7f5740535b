use Rattle.std.proofs.Common.{length}
use Rattle.esm_input.proofs.Beginning.{IsKeeping}
use Rattle.esm_input.proofs.positions.Positions.keep_from.Given as goal

abbrev pub invariant-loop-item : goal.invariant-loop-item
invariant-loop-item l = IsKeeping l.moment l.fn.self.begun.items l.self.begun.items l.fn.items.items l.kept.items l.rest.items

abbrev pub decreases-loop-item : goal.decreases-loop-item
decreases-loop-item l = length l.rest.items
