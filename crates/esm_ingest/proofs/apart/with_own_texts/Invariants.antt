use Rattle.std.proofs.Common.{◌≡◌}
use Rattle.esm_ingest.proofs.apart.with_own_texts.Given as goal

abbrev pub invariant-loop-place : goal.invariant-loop-place
invariant-loop-place l = l.kept.items ≡ l.fn.records.items
