-- How the records of a shard are kept in slots, one for each place. Only this crate's proofs cite this.
use Rattle.std.specs.Prelude.{◌≡◌, ℕ, List, length, map, Option, Some, slice_get}
use Rattle.std.specs.declared.snapshot.Snapshot.{Snapshot}
use Rattle.esm_model.specs.Records.{Record}

-- the records that only contracts see
abbrev pub seen_in : List (Snapshot Record) → List Record
seen_in seen = map (λ (x : Snapshot Record). x.value) seen

-- each place has a slot; a full slot has the record of its place
pub record AreSlots (items : List Record) (slots : List (Option Record)) : Type 0 where
  pub len : length slots ≡ length items
  pub each : (i : ℕ) (r : Record) → slice_get slots i ≡ Some (Some r) → slice_get items i ≡ Some r
