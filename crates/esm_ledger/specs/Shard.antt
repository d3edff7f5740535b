-- What is kept of one shard, and what it says of a history. This product's own.
use Rattle.std.specs.Prelude.{◌≡◌, ℕ, ◌<◌, List, length, map, not, Option, Some, None, slice_get, slice_index_or, take, ⊤, false, ◌==◌}
use Rattle.esm_model.specs.Records.{Record}
use Rattle.esm_model.specs.declared.lane.LaneId.{LaneId}
use Rattle.esm_model.specs.declared.entry.Entry.{Entry}
use Rattle.esm_model.specs.declared.entry.Entry.TheVariants.{Came, Began, Ended, Gave, Closed}
use Rattle.esm_model.specs.Setting.{Setting, record_at}
use Rattle.esm_model.specs.EventText.{record_text}
use Rattle.esm_model.specs.Entries.{came_count}
use Rattle.esm_model.specs.Windows.{window_of}
use Rattle.esm_shard_index.specs.declared.lane_state.Running.{Running}
use Rattle.esm_shard_index.specs.LaneView.{LaneView, Table, lane_in, running_count, front_places}
use Rattle.esm_shard_index.specs.LaneHistory.{IsLane}
use Rattle.esm_shard_index.specs.Progress.{IsProgress}
use Rattle.esm_shard_index.specs.Arrivals.{IsArrivals}
use Rattle.esm_shard_index.specs.Callings.{IsCallings}
use Rattle.esm_shard_index.specs.Windows.{IsWindows}
use Rattle.esm_ledger.specs.declared.measure.Measure.{Measure}
use Rattle.esm_ledger.specs.declared.shard.ShardLedger.{ShardLedger}

-- the lane of this number
abbrev pub lane_id : ℕ → ℕ → LaneId
lane_id n k = record { shard = n; lane = k }

-- the measure of no record
abbrev pub nothing : Measure
nothing = record { length = 0; window = 0 }

abbrev pub measure_at : List Measure → ℕ → Measure
measure_at measures i = slice_index_or measures i nothing

-- the windows of the records at the places, one for each
abbrev pub windows_at : List Measure → List ℕ → List ℕ
windows_at measures places = map (λ i. (measure_at measures i).window) places

-- these are the shard's records that came, and each has its length in an event and its window beside it
pub record AreRecords (s : Setting) (h : List Entry) (n : ℕ) (records : List Record) (measures : List Measure) : Type 0 where
  pub came : length records ≡ came_count h n
  pub measured : length measures ≡ came_count h n
  pub stand : (i : ℕ) (r : Record) → slice_get records i ≡ Some r → record_at s n i ≡ Some r
  pub lengths : (i : ℕ) (r : Record) → slice_get records i ≡ Some r → (measure_at measures i).length ≡ length (record_text s.config r)
  pub windows : (i : ℕ) → i < came_count h n → (measure_at measures i).window ≡ window_of s n i

-- all that is kept of the shard says what the history says
pub record IsShard (s : Setting) (h : List Entry) (c : ShardLedger) : Type 0 where
  pub records : AreRecords s h c.shard c.records.items c.measures.items
  pub progress : IsProgress s h c.shard c.progress
  -- a record is held exactly while it has no fate
  pub held : c.records.held ≡ map not c.progress.fated
  pub arrivals : IsArrivals h c.shard c.arrivals
  pub callings : IsCallings h c.shard c.callings
  pub windows : IsWindows s h c.shard c.windows
  pub factor : length c.lanes.lanes ≡ s.config.factor
  pub lanes : (k : ℕ) → k < s.config.factor → IsLane s h (lane_id c.shard k) (lane_in c.lanes k)

-- the window that a call closes, if it closes one
abbrev pub closing_in : Option Running → Option ℕ
closing_in None = None
closing_in (Some r) = r.closing

-- the places of the call that runs, in order
abbrev pub called_places : LaneView → List ℕ
called_places v = take (running_count v.state.running) (front_places v.kept.pieces)

-- each lane has the splits that were prepared for it
abbrev pub SameSplits : Table → Table → Type 0
SameSplits old new = (k : ℕ) → (lane_in new k).kept.splits ≡ (lane_in old k).kept.splits

-- the entry is neither of the shard nor of one of its lanes, or it changes nothing that is kept
abbrev pub LeavesShard : ℕ → Entry → Type 0
LeavesShard n (Came shard first count moment) = (shard == n) ≡ false
LeavesShard n (Began lane places closing moment) = (lane.shard == n) ≡ false
LeavesShard n (Ended lane reply moment) = (lane.shard == n) ≡ false
LeavesShard n (Gave by shard places fate line state moment) = (shard == n) ≡ false
LeavesShard n (Closed lane window moment) = (lane.shard == n) ≡ false
LeavesShard n _ = ⊤
