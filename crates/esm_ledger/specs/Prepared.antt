-- What is prepared for entries that are to follow, and what of it stays while others are added. This product's own.
use Rattle.std.specs.Prelude.{ℕ, ◌≢◌}
use Rattle.esm_ledger.specs.declared.ledger.Ledger.{Ledger}
use Rattle.esm_ledger.specs.declared.coming.Coming.{Coming}
use Rattle.esm_ledger.specs.Shard.{lane_id}
use Rattle.esm_ledger.specs.Ledger.{HasSplits, HasState, IsClosingPrepared}
use Rattle.esm_ledger.specs.Coming.{IsComing}

-- what is prepared for the lanes and the windows of the shard stays
pub record StaysAt (c d : Ledger) (n : ℕ) : Type 0 where
  pub splits : (k : ℕ) → HasSplits c (lane_id n k) → HasSplits d (lane_id n k)
  pub states : (w : ℕ) → HasState c n w → HasState d n w
  pub closings : (k : ℕ) → IsClosingPrepared c (lane_id n k) → IsClosingPrepared d (lane_id n k)

-- what is prepared for any other shard, and for records that are to come to it, stays
pub record StaysElsewhere (c d : Ledger) (n : ℕ) : Type 0 where
  pub shards : (m : ℕ) → m ≢ n → StaysAt c d m
  pub comings : (x : Coming) → x.shard ≢ n → IsComing c x → IsComing d x

-- all that is prepared for lanes, windows and records stays
pub record Stays (c d : Ledger) : Type 0 where
  pub shards : (m : ℕ) → StaysAt c d m
  pub comings : (x : Coming) → IsComing c x → IsComing d x
