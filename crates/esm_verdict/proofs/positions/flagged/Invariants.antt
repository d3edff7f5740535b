use Rattle.std.proofs.Common.{◌≡◌, ℕ, Bool, length}
use Rattle.std.specs.Prelude.{filter}
use Rattle.esm_model.specs.Fates.{below}
use Rattle.esm_verdict.specs.Flags.{AreFlags}
use Rattle.esm_verdict.proofs.positions.flagged.Given as goal

abbrev pub invariant-loop-i : goal.invariant-loop-i
invariant-loop-i l = (test : ℕ → Bool) → AreFlags test (length l.flags) l.flags → l.places.items ≡ filter test (below l.i)
