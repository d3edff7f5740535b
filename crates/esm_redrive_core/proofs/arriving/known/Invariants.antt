use Rattle.std.proofs.Common.{◌≡◌, ◌+◌, ◌++◌, drop}
use Rattle.esm_redrive_model.specs.RedriveSetting.{RedriveSetting}
use Rattle.esm_redrive_core.specs.Coming.{known_from}
use Rattle.esm_redrive_core.proofs.arriving.known.Given as goal

abbrev pub invariant-loop-i : goal.invariant-loop-i
invariant-loop-i l = (s : RedriveSetting) → s.queue.deletions ≡ l.said.deletions → s.dead_ids ≡ l.dead → l.places.items ++ known_from s (l.from + l.i) (drop l.i l.items) ≡ known_from s l.from l.items
