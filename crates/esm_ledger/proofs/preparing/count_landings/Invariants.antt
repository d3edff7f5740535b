use Rattle.std.proofs.Common.{◌≡◌, ℕ, ◌<◌, take, length, get_or}
use Rattle.esm_ledger.specs.Arriving.{landing_count}
use Rattle.esm_ledger.proofs.preparing.count_landings.Given as goal

abbrev pub invariant-loop-landing : goal.invariant-loop-landing
invariant-loop-landing l = record {
  size : length l.counts.items ≡ l.lanes;
  each : (k : ℕ) → k < l.lanes → get_or l.counts.items k 0 ≡ landing_count k (take l.landing-index l.landings);
}
