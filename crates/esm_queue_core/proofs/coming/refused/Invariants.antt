use Rattle.std.proofs.Common.{◌≡◌, ◌+◌, ◌++◌, drop}
use Rattle.esm_queue_model.specs.QueueSetting.{QueueSetting}
use Rattle.esm_queue_core.specs.Coming.{refused_from}
use Rattle.esm_queue_core.specs.Judged.{IsJudgedBy}
use Rattle.esm_queue_core.proofs.coming.refused.Given as goal

abbrev pub invariant-loop-i : goal.invariant-loop-i
invariant-loop-i l = (s : QueueSetting) → IsJudgedBy s l.said l.criteria → l.places.items ++ refused_from s (l.from + l.i) (drop l.i l.items) ≡ refused_from s l.from l.items
