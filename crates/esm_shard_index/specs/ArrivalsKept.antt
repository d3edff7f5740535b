-- What holds of each list of arrivals as it is kept. Only this crate's proofs cite this.
use Rattle.std.specs.Prelude.{ℕ, ◌≤◌, ◌<◌, List, length, slice_index_or}
use Rattle.std.specs.List.Sorted.{IsNonDecreasingBy}
use Rattle.esm_shard_index.specs.declared.arrivals.Arrival.{Arrival}

-- the runs are in the order of their places, and none begins past the records that came
pub record AreArrivals (runs : List Arrival) (came : ℕ) : Type 0 where
  pub rising : IsNonDecreasingBy (λ (r : Arrival). r.first) runs
  pub within : (k : ℕ) (d : Arrival) → k < length runs → (slice_index_or runs k d).first ≤ came
