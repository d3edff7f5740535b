-- Founders of message groups by the groups' names, in buckets. This product's own; cited by this crate's proofs alone.
use Rattle.std.specs.Prelude.{◌≡◌, ℕ, ◌+◌, ◌*◌, ◌%◌, ◌<◌, ◌≤◌, List, length, Option, None, Some, slice_index, fold}
use Rattle.esm_queue_model.specs.declared.stored.Stored.{Stored}
use Rattle.esm_queue.specs.declared.links.Link.{Link}
use Rattle.esm_queue.specs.declared.links.TheConstants.{NONE}
use Rattle.esm_queue.specs.Links.{founder_at, earlier_at, group_at}

abbrev pub hash_step : ℕ → ℕ → ℕ
hash_step hash byte = (hash * 257 + byte + 1) % 4294967291

unfoldable pub hash_of : List ℕ → ℕ
hash_of name = fold hash_step 0 name

-- a message of no group is in the first bucket
abbrev pub bucket_of : ℕ → Option (List ℕ) → ℕ
bucket_of count None = 0
bucket_of count (Some name) = hash_of name % count

abbrev pub bucket_at : ℕ → List Stored → ℕ → ℕ
bucket_at count messages i = bucket_of count (group_at messages i)

-- each bucket has the last of its founders, and each founder the one before it in its bucket
pub record IsChained (count : ℕ) (messages : List Stored) (links : List Link) (buckets : List ℕ) : Type 0 where
  pub sized : length buckets ≡ count
  pub some : 0 < count
  pub bucket_is : (b : ℕ) → b < count → (slice_index buckets b ≡ NONE → ⊥) → (slice_index buckets b < length messages) × (founder_at links (slice_index buckets b) ≡ slice_index buckets b) × (bucket_at count messages (slice_index buckets b) ≡ b)
  pub bucket_high : (j : ℕ) → j < length messages → founder_at links j ≡ j → (j ≤ slice_index buckets (bucket_at count messages j)) × (slice_index buckets (bucket_at count messages j) < length messages)
  pub earlier_is : (i : ℕ) → i < length messages → founder_at links i ≡ i → (earlier_at links i ≡ NONE → ⊥) → (earlier_at links i < i) × (founder_at links (earlier_at links i) ≡ earlier_at links i) × (bucket_at count messages (earlier_at links i) ≡ bucket_at count messages i)
  pub earlier_high : (i j : ℕ) → i < length messages → founder_at links i ≡ i → founder_at links j ≡ j → bucket_at count messages j ≡ bucket_at count messages i → j < i → (j ≤ earlier_at links i) × (earlier_at links i < i)
