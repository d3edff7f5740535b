use Rattle.std.proofs.Common.{◌≡◌, ℕ, List, ◌≤◌, length, drop, map}
use Rattle.std.specs.List.{position_from}
use Rattle.std.specs.Str.{bytes_eq}
use Rattle.esm_verdict.specs.Indexed.{finds}
use Rattle.esm_verdict.proofs.index.Index.of.Given as goal

abbrev pub invariant-loop-at : goal.invariant-loop-at
invariant-loop-at g l = record { within : l.at ≤ length l.batch; indexed : (id : List ℕ) → finds l.index id ≡ position_from (λ i. bytes_eq i id) l.at (drop l.at (map g.T.Identified.identifier l.batch)) }

abbrev pub decreases-loop-at : goal.decreases-loop-at
decreases-loop-at g l = l.at
