use Rattle.std.proofs.Common.{◌≡◌, ◌+◌, ◌++◌, drop}
use Rattle.esm_model.specs.Setting.{Setting}
use Rattle.esm_ingest.specs.Parts.{refused_from}
use Rattle.esm_ingest.specs.Judged.{IsJudgedBy, staying_from}
use Rattle.esm_ingest.proofs.judging.judge.Given as goal

abbrev pub invariant-loop-i : goal.invariant-loop-i
invariant-loop-i l = record {
  refused : (s : Setting) → IsJudgedBy s l.said l.criteria → l.refused.items ++ refused_from s l.shard (l.from + l.i) (drop l.i l.items) ≡ refused_from s l.shard l.from l.items;
  staying : (s : Setting) → IsJudgedBy s l.said l.criteria → l.staying.items ++ staying_from s l.shard (l.from + l.i) (drop l.i l.items) ≡ staying_from s l.shard l.from l.items;
}
