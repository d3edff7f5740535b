use Rattle.esm_queue_core.specs.Coming.{NoneHasChanged}
use Rattle.esm_queue_core.proofs.coming.first_changed.Given as goal

abbrev pub invariant-loop-j : goal.invariant-loop-j
invariant-loop-j l = NoneHasChanged l.said.deletions l.from l.items l.j
