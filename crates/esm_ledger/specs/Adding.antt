-- What a change of one shard does to a ledger. Only this crate's proofs cite this.
use Rattle.std.specs.Prelude.{◌≡◌, ◌≢◌, ℕ, false, List, map, length, None, vec_len, vec_capacity}
use Rattle.esm_model.specs.Lane.{same_lane}
use Rattle.esm_model.specs.declared.lane.LaneId.{LaneId}
use Rattle.esm_model.specs.declared.entry.Entry.{Entry}
use Rattle.esm_shard_index.specs.LaneView.{lane_in}
use Rattle.esm_ledger.specs.declared.ledger.Ledger.{Ledger}
use Rattle.esm_ledger.specs.declared.shard.ShardLedger.{ShardLedger}
use Rattle.esm_ledger.specs.Shard.{IsShard, SameSplits, lane_id}
use Rattle.esm_ledger.specs.Ledger.{setting_of, stream_of, IsAt}

-- the same shards with the same records, each in this relation to what it was
pub record IsChanged (c d : Ledger) (P : ShardLedger → ShardLedger → Type 0) : Type 0 where
  pub names : map (λ (x : ShardLedger). x.shard) d.shards.items ≡ map (λ (x : ShardLedger). x.shard) c.shards.items
  pub streams : map stream_of d.shards.items ≡ map stream_of c.shards.items
  pub kept : (n : ℕ) (y : ShardLedger) → IsAt d n y → (x : ShardLedger) × IsAt c n x × P x y

-- each shard is as the history says
abbrev pub AreShards : Ledger → Ledger → List Entry → Type 0
AreShards c d h = (n : ℕ) (x : ShardLedger) → IsAt d n x → IsShard (setting_of c) h x

-- every other shard is as it was, and there is the same room
pub record KeepsOthers (c d : Ledger) (n : ℕ) : Type 0 where
  pub others : (m : ℕ) (y : ShardLedger) → m ≢ n → IsAt d m y → IsAt c m y
  pub len : vec_len d.shards ≡ vec_len c.shards
  pub capacity : vec_capacity d.shards ≡ vec_capacity c.shards

-- each window keeps its entry for a state
abbrev pub KeepsStates : ShardLedger → ShardLedger → Type 0
KeepsStates x y = y.windows.states ≡ x.windows.states

-- each lane's call is the same, and each window keeps its tries
pub record KeepsClosings (x y : ShardLedger) : Type 0 where
  pub lanes : y.lanes ≡ x.lanes
  pub tries : y.windows.tries ≡ x.windows.tries

-- each lane has the splits that were prepared for it
abbrev pub KeepsSplits : ShardLedger → ShardLedger → Type 0
KeepsSplits x y = SameSplits x.lanes y.lanes

-- no other lane changes, and each window keeps its entry for a state
pub record EndsAt (lane : LaneId) (x y : ShardLedger) : Type 0 where
  pub others : (k : ℕ) → same_lane lane (lane_id y.shard k) ≡ false → lane_in y.lanes k ≡ lane_in x.lanes k
  pub states : y.windows.states ≡ x.windows.states

-- no other lane changes, and no call of this one runs
pub record RestsAt (lane : LaneId) (x y : ShardLedger) : Type 0 where
  pub others : (k : ℕ) → same_lane lane (lane_id y.shard k) ≡ false → lane_in y.lanes k ≡ lane_in x.lanes k
  pub rests : y.shard ≡ lane.shard → (lane_in y.lanes lane.lane).state.running ≡ None
  pub lanes : length y.lanes.lanes ≡ length x.lanes.lanes
