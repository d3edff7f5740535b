-- What the entries of a legal history need of a shard that is kept, and what is read of it. This product's own.
use Rattle.std.specs.Prelude.{◌≡◌, ℕ, ◌<◌, ◌≤◌, ◌+◌, true, List, length}
use Rattle.esm_model.specs.declared.entry.Entry.{Entry}
use Rattle.esm_model.specs.Setting.{Setting}
use Rattle.esm_model.specs.Entries.{holds}
use Rattle.esm_model.specs.Fates.{open_count}
use Rattle.esm_model.specs.Checkpoint.{checkpoint, spread}
use Rattle.esm_lanes.specs.Piece.{front_length}
use Rattle.esm_shard_index.specs.LaneView.{lane_in, running_count}
use Rattle.esm_shard_index.specs.Callings.{StandOnce, calls_at}
use Rattle.esm_shard_index.specs.Progress.{front_of, past_of, number_of}
use Rattle.esm_ledger.specs.declared.shard.ShardLedger.{ShardLedger}
use Rattle.esm_ledger.specs.Shard.{called_places}

-- a call of the lane with these places may be added
pub record CallFits (c : ShardLedger) (lane : ℕ) (places : List ℕ) : Type 0 where
  pub known : lane < length c.lanes.lanes
  pub came : (i : ℕ) → holds places i ≡ true → i < length c.callings.records
  pub once : StandOnce places
  pub few : (i : ℕ) → holds places i ≡ true → calls_at c.callings i < 4294967295
  pub short : length places < 4294967296

-- the end of the lane's call may be added, if its splits and the tries of its window are prepared
pub record EndFits (c : ShardLedger) (lane : ℕ) : Type 0 where
  pub known : lane < length c.lanes.lanes
  pub within : running_count (lane_in c.lanes lane).state.running ≤ front_length (lane_in c.lanes lane).kept.pieces
  pub few : (lane_in c.lanes lane).state.failures < 18446744073709551615
  pub came : (i : ℕ) → holds (called_places (lane_in c.lanes lane)) i ≡ true → i < length c.callings.records

-- the places may get a fate
pub record GiftFits (c : ShardLedger) (places : List ℕ) : Type 0 where
  pub came : (i : ℕ) → holds places i ≡ true → i < length c.progress.fated
  pub measured : length c.measures.items ≡ length c.progress.fated

-- the places may expire
pub record ExpiryFits (c : ShardLedger) (lane : ℕ) (places : List ℕ) : Type 0 where
  pub known : lane < length c.lanes.lanes
  pub gift : GiftFits c places
  pub within : length places ≤ front_length (lane_in c.lanes lane).kept.pieces
  pub short : length places < 4294967296

-- what is read of the shard
pub record ShardTells (s : Setting) (h : List Entry) (c : ShardLedger) : Type 0 where
  pub checkpoint_is : checkpoint s h c.shard ≡ front_of c.progress.fated
  pub spread_is : spread s h c.shard ≡ past_of c.progress.fated
  pub open_is : open_count s h c.shard + number_of c.progress.fated ≡ length c.progress.fated
