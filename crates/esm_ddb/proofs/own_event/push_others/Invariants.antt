use Rattle.std.proofs.Common.{ℕ, List, length}
use Rattle.esm_ddb.specs.OwnForm.{Becomes}
use Rattle.esm_ddb.proofs.own_event.push_others.Given as goal

abbrev pub invariant-loop-next : goal.invariant-loop-next
invariant-loop-next l = (event : List ℕ) → Becomes event l.fn.out.items l.fn.left → Becomes event l.out.items l.left

abbrev pub decreases-loop-next : goal.decreases-loop-next
decreases-loop-next l = length l.left
