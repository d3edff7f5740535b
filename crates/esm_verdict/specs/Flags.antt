-- Which positions of a batch are flagged as failed. Only this crate's proofs cite this.
use Rattle.std.specs.Prelude.{◌≡◌, ℕ, ◌<◌, List, length, slice_index_or, Bool, false}

-- one flag for each of the batch's messages, set if its position passes the test
pub record AreFlags (test : ℕ → Bool) (count : ℕ) (flags : List Bool) : Type 0 where
  pub as_many : length flags ≡ count
  pub flagged : (k : ℕ) → k < count → slice_index_or flags k false ≡ test k
