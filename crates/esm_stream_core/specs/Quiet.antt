-- Whether something is left for a batcher of a stream. Source: the Lambda Developer Guide, event source mappings for
-- Kinesis; if tumbling windows are configured, a shard has one lane.
use Rattle.std.specs.Prelude.{◌≡◌, ◌⊎◌, ◌≤◌, ℕ, true, false, List, [], length, Some}
use Rattle.esm_model.specs.declared.lane.LaneId.{LaneId}
use Rattle.esm_model.specs.declared.entry.Entry.{Entry}
use Rattle.esm_model.specs.Setting.{Setting}
use Rattle.esm_model.specs.Fates.{open_places}
use Rattle.esm_model.specs.Windows.{is_outstanding}
use Rattle.esm_ledger.specs.Reading.{lane_of_batcher}

-- no record of the lane is open, and no window of its shard is outstanding
pub record IsQuietLane (s : Setting) (h : List Entry) (lane : LaneId) : Type 0 where
  pub none_open : open_places s h lane ≡ []
  pub none_outstanding : s.config.factor ≡ 1 → (w : ℕ) → is_outstanding s h lane.shard w ≡ false

-- so it is with the batcher's lane, if it has one
abbrev pub IsQuiet : Setting → List Entry → ℕ → Type 0
IsQuiet s h k = (lane : LaneId) → lane_of_batcher s h k ≡ Some lane → IsQuietLane s h lane

-- a window of the shard, which has one lane, is outstanding
pub record HasWindow (s : Setting) (h : List Entry) (n : ℕ) : Type 0 where
  pub one_lane : s.config.factor ≡ 1
  pub window : ℕ
  pub outstanding : is_outstanding s h n window ≡ true

-- a record of the batcher's lane is open, or a window of its shard is outstanding
pub record IsWanting (s : Setting) (h : List Entry) (k : ℕ) : Type 0 where
  pub lane : LaneId
  pub serves : lane_of_batcher s h k ≡ Some lane
  pub left : (1 ≤ length (open_places s h lane)) ⊎ HasWindow s h lane.shard
