use Rattle.std.proofs.Common.{◌≡◌, ◌+◌, ◌++◌, drop}
use Rattle.esm_redrive_model.specs.RedriveSetting.{RedriveSetting}
use Rattle.esm_redrive_core.specs.Coming.{dropped_from}
use Rattle.esm_redrive_core.specs.Judged.{IsJudgedBy}
use Rattle.esm_redrive_core.proofs.arriving.dropped.Given as goal

abbrev pub invariant-loop-i : goal.invariant-loop-i
invariant-loop-i l = (s : RedriveSetting) → IsJudgedBy s l.said l.dead l.criteria → l.places.items ++ dropped_from s (l.from + l.i) (drop l.i l.items) ≡ dropped_from s l.from l.items
