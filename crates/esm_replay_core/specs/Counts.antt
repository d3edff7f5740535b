-- Counts of the records of each shard. Only this crate's proofs cite this.
use Rattle.std.specs.Prelude.{◌≡◌, ℕ, ◌+◌, ◌==◌, List, length, IsSome, unwrap_or, if◌then◌else◌}
use Rattle.std.specs.Ordering.{nat_cmp}
use Rattle.std.specs.Map.{count_at}
use Rattle.std.specs.BTreeMap.{BTreeMap, get}
use Rattle.esm_model.specs.Records.{Record}
use Rattle.esm_replay.specs.Records.{of_shard}
use Rattle.esm_replay_core.specs.declared.tally.Tally.{Tally}

-- each shard has the number of its records in the list
abbrev pub AreCounted : BTreeMap ℕ ℕ → List Record → Type 0
AreCounted m rs = (q : ℕ) → count_at (get nat_cmp m) q ≡ length (of_shard q rs)

-- the shard of the record has a count
abbrev pub HasCount : BTreeMap ℕ ℕ → Record → Type 0
HasCount m r = IsSome (get nat_cmp m r.shard)

-- the counts are the same, and each shard that had one has one
pub record IsRecounted (m m' : BTreeMap ℕ ℕ) : Type 0 where
  pub same : (q : ℕ) → count_at (get nat_cmp m') q ≡ count_at (get nat_cmp m) q
  pub keys : (q : ℕ) → IsSome (get nat_cmp m q) → IsSome (get nat_cmp m' q)

-- the shard has one more record
pub record HasOneMore (shard : ℕ) (m m' : BTreeMap ℕ ℕ) : Type 0 where
  pub more : (q : ℕ) → count_at (get nat_cmp m') q ≡ (if shard == q then count_at (get nat_cmp m) q + 1 else count_at (get nat_cmp m) q)
  pub keys : (q : ℕ) → IsSome (get nat_cmp m q) → IsSome (get nat_cmp m' q)

-- the place of the next record of a shard: counted on in the list, or else what arrived before the list
abbrev pub next_in : BTreeMap ℕ ℕ → BTreeMap ℕ ℕ → ℕ → ℕ
next_in counts others q = unwrap_or (get nat_cmp others q) (count_at (get nat_cmp counts) q)

-- the same, where one shard's place is in the tally itself
abbrev pub next_place : BTreeMap ℕ ℕ → Tally → ℕ → ℕ
next_place counts t q = if t.shard == q then t.place else next_in counts t.others q

-- the tally counts what of each shard arrived before, and then these records of the list
abbrev pub AreTallied : BTreeMap ℕ ℕ → Tally → List Record → Type 0
AreTallied counts t rs = (q : ℕ) → next_place counts t q ≡ count_at (get nat_cmp counts) q + length (of_shard q rs)
