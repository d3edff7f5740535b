use Rattle.std.proofs.Common.{◌≡◌, ◌<◌, ℕ, false, slice_index_or}
use Rattle.esm_workers.specs.declared.hand.Hand.{Hand}
use Rattle.esm_workers.proofs.working.any_short.Given as goal

abbrev pub invariant-loop-n : goal.invariant-loop-n
invariant-loop-n g l = (k : ℕ) (d : Hand g.row.T.Denot g.row.F.Denot) → k < l.n → (slice_index_or l.hands k d).short ≡ false
