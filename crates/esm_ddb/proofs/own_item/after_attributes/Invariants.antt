use Rattle.std.proofs.Common.{length}
use Rattle.esm_ddb.specs.OwnLine.{Leads}
use Rattle.esm_ddb.proofs.own_item.after_attributes.Given as goal

abbrev pub invariant-loop-next : goal.invariant-loop-next
invariant-loop-next l = Leads l.text l.before l.left

abbrev pub decreases-loop-next : goal.decreases-loop-next
decreases-loop-next l = length l.left
