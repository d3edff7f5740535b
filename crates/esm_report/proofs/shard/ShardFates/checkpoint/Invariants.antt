use Rattle.std.proofs.Common.{◌≡◌, ◌<◌, ℕ, true}
use Rattle.std.specs.Prelude.{is_some}
use Rattle.esm_report.specs.Totals.{place_fate}
use Rattle.esm_report.proofs.shard.ShardFates.checkpoint.Given as goal

abbrev pub invariant-loop-place : goal.invariant-loop-place
invariant-loop-place l = (i : ℕ) → i < l.place → is_some (place_fate l.self i) ≡ true
