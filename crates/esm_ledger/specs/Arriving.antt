-- Records of a shard that are about to come, and what is kept of them. This product's own.
use Rattle.std.specs.Prelude.{◌≡◌, ℕ, suc, ◌+◌, ◌<◌, ◌≤◌, ◌==◌, Bool, true, false, List, [], ◌∷◌, length, filter, Option, Some, None, IfSome, slice_get, slice_index_or, option_map, if◌then◌else◌, vec_len, vec_capacity}
use Rattle.esm_model.specs.Records.{Record}
use Rattle.esm_model.specs.declared.limits.TheConstants.{MAX_TRIES}
use Rattle.esm_model.specs.declared.setup.FoundTries.{FoundTries}
use Rattle.esm_model.specs.Setting.{Setting, record_at, found_try}
use Rattle.esm_model.specs.EventText.{record_text}
use Rattle.esm_model.specs.Entries.{holds}
use Rattle.esm_model.specs.Ruling.{capped_tries}
use Rattle.esm_model.specs.Windows.{window_of}
use Rattle.esm_lanes.specs.Piece.{open_places}
use Rattle.esm_shard_index.specs.LaneView.{LaneView, lane_in, after_came, standing_of}
use Rattle.esm_shard_index.specs.LaneHistory.{arrives}
use Rattle.esm_shard_index.specs.Progress.{AreFound}
use Rattle.esm_shard_index.specs.WindowEntries.{has_entry}
use Rattle.esm_shard_index.specs.Windows.{open_in, window_before}
use Rattle.esm_shard_index.specs.WindowsLaws.{open_windows}
use Rattle.esm_ledger.specs.declared.arriving.Arriving.{Arriving}
use Rattle.esm_ledger.specs.declared.arriving.Landing.{Landing}
use Rattle.esm_ledger.specs.declared.shard.ShardLedger.{ShardLedger}
use Rattle.esm_ledger.specs.Shard.{lane_id, measure_at}

-- where a record goes, if it goes to a lane
abbrev pub landing_at : List (Option Landing) → ℕ → Option Landing
landing_at landings k = slice_index_or landings k None

-- the record goes to the lane
abbrev pub lands_in : ℕ → Option Landing → Bool
lands_in k None = false
lands_in k (Some l) = l.lane == k

-- the tries that were found of the place
abbrev pub tries_found : Setting → ℕ → ℕ → Option ℕ
tries_found s n i = option_map (λ (f : FoundTries). capped_tries f.tries) (found_try s n i)

-- the record at the place goes to its lane with its found tries, if it has no found fate and passes the filter
pub record IsLanding (s : Setting) (n i : ℕ) (l : Option Landing) : Type 0 where
  pub lanes : (k : ℕ) → k < s.config.factor → lands_in k l ≡ arrives s (lane_id n k) i
  pub tries : IfSome l (λ (x : Landing). x.tries ≡ tries_found s n i)

-- these are the shard's records from the place on, with what is kept of them
pub record AreArriving (s : Setting) (n first : ℕ) (a : Arriving) : Type 0 where
  pub stand : (k : ℕ) (r : Record) → slice_get a.records.items k ≡ Some r → record_at s n (first + k) ≡ Some r
  pub lengths : (k : ℕ) (r : Record) → slice_get a.records.items k ≡ Some r → (measure_at a.measures.items k).length ≡ length (record_text s.config r)
  pub measured : (k : ℕ) → k < length a.records.items → (measure_at a.measures.items k).window ≡ window_of s n (first + k)
  pub fates : AreFound s n first a.fates.items
  pub landings : (k : ℕ) → k < length a.records.items → IsLanding s n (first + k) (landing_at a.landings.items k)
  pub windows : a.windows.items ≡ open_windows s n first (length a.records.items)
  pub last : a.last ≡ window_before s n (first + length a.records.items)

-- the lists have the lengths that they need
pub record IsEven (a : Arriving) : Type 0 where
  pub measures : length a.measures.items ≡ length a.records.items
  pub fates : length a.fates.items ≡ length a.records.items
  pub landings : length a.landings.items ≡ length a.records.items
  pub windows : length a.windows.items ≤ length a.records.items

-- how many of the records go to the lane
abbrev pub landing_count : ℕ → List (Option Landing) → ℕ
landing_count k landings = length (filter (lands_in k) landings)

-- a record goes to a lane that exists, with tries within the bounds, or to none
abbrev pub IsWithin : ℕ → Option Landing → Type 0
IsWithin lanes l = IfSome l (λ (x : Landing). (x.lane < lanes) × IfSome x.tries (λ t. (1 ≤ t) × (t ≤ MAX_TRIES)))

-- what the records from the place on do to the lane

abbrev pub land_in : ℕ → ℕ → Option Landing → LaneView → LaneView
land_in k place None v = v
land_in k place (Some l) v = if l.lane == k then after_came (standing_of l.tries) place v else v

abbrev pub landed : ℕ → ℕ → List (Option Landing) → LaneView → LaneView
landed k first [] v = v
landed k first (l ∷ landings) v = landed k (suc first) landings (land_in k first l v)

-- there is memory for the records
pub record HasRoomFor (c : ShardLedger) (a : Arriving) : Type 0 where
  pub records : length a.records.items ≤ c.records.room
  pub measures : vec_len c.measures + vec_len a.measures ≤ vec_capacity c.measures
  pub progress : length a.fates.items ≤ c.progress.room
  pub arrivals : 0 < c.arrivals.room
  pub callings : length a.records.items ≤ c.callings.room
  pub windows : (w : ℕ) → holds a.windows.items w ≡ true → has_entry c.windows.opened w ≡ true
  pub lanes : (k : ℕ) → k < length c.lanes.lanes → landing_count k a.landings.items ≤ (lane_in c.lanes k).kept.adds

-- the numbers fit 32 bits with these records
pub record FitsNumbers (c : ShardLedger) (a : Arriving) : Type 0 where
  pub fates : length c.progress.fated + length a.fates.items < 4294967296
  pub came : c.arrivals.came + length a.records.items < 4294967296
  pub windows : (w : ℕ) → open_in c.windows w + length a.windows.items < 4294967296
  pub lanes : (k : ℕ) → k < length c.lanes.lanes → length (open_places (lane_in c.lanes k).kept.pieces) + length a.landings.items < 4294967296
