-- The setting of a history: what its entries are judged against. This product's own.
use Rattle.std.specs.Prelude.{ℕ, ◌≡◌, ◌==◌, Bool, false, ◌&&◌, List, [], ◌∷◌, map, Option, Some, find, option_map, unwrap_or, slice_get, filter_map, if◌then◌else◌}
use Rattle.esm_model.specs.Lane.{lane_of}
use Rattle.esm_model.specs.declared.config.Config.{Config}
use Rattle.esm_model.specs.Records.{Record}
use Rattle.esm_model.specs.declared.lane.LaneId.{LaneId}
use Rattle.esm_model.specs.declared.setup.FoundFate.{FoundFate}
use Rattle.esm_model.specs.declared.setup.FoundTries.{FoundTries}
use Rattle.esm_model.specs.declared.setup.FoundState.{FoundState}
use Rattle.esm_model.specs.declared.setup.FoundWindowTries.{FoundWindowTries}

-- a shard's records by place: those of the stream from the mapping's starting position on
pub record Stream : Type 0 where
  pub shard : ℕ
  pub records : List Record

-- the configuration, the calls allowed, the records of each shard, and what was found in the journal at opening
pub record Setting : Type 0 where
  pub config : Config
  pub calls : ℕ
  pub streams : List Stream
  pub fates : List FoundFate
  pub tries : List FoundTries
  pub states : List FoundState
  pub window_tries : List FoundWindowTries

-- records

-- the records of the first stream with this shard
abbrev pub records_in : List Stream → ℕ → List Record
records_in [] n = []
records_in (t ∷ ts) n = if t.shard == n then t.records else records_in ts n

-- the shard's records
abbrev pub records_of : Setting → ℕ → List Record
records_of s n = records_in s.streams n

-- the record of a shard at a place
abbrev pub record_at : Setting → ℕ → ℕ → Option Record
record_at s n i = slice_get (records_of s n) i

-- the records at the places, in order
abbrev pub records_at : Setting → ℕ → List ℕ → List Record
records_at s n places = filter_map (record_at s n) places

-- the sequence numbers of the records at the places
abbrev pub sequences_at : Setting → ℕ → List ℕ → List (List ℕ)
sequences_at s n places = map (λ (r : Record). r.seq) (records_at s n places)

-- the record's key belongs to the lane
abbrev pub is_key_of : Setting → LaneId → Record → Bool
is_key_of s lane r = lane_of r.key s.config.factor == lane.lane

-- the record at the place belongs to the lane
abbrev pub is_in_lane : Setting → LaneId → ℕ → Bool
is_in_lane s lane i = unwrap_or (option_map (is_key_of s lane) (record_at s lane.shard i)) false

-- what was found at opening

-- the found fate of a place
abbrev pub found_fate : Setting → ℕ → ℕ → Option FoundFate
found_fate s n i = find (λ (f : FoundFate). (f.shard == n) && (f.place == i)) s.fates

-- the found tries of a place
abbrev pub found_try : Setting → ℕ → ℕ → Option FoundTries
found_try s n i = find (λ (f : FoundTries). (f.shard == n) && (f.place == i)) s.tries

-- the found tries of a place, or 0
abbrev pub found_tries : Setting → ℕ → ℕ → ℕ
found_tries s n i = unwrap_or (option_map (λ (f : FoundTries). f.tries) (found_try s n i)) 0

-- the found state of a window
abbrev pub found_state : Setting → ℕ → ℕ → Option (List ℕ)
found_state s n w = option_map (λ (f : FoundState). f.text) (find (λ (f : FoundState). (f.shard == n) && (f.window == w)) s.states)

-- the found tries of a window's final call, or 0
abbrev pub found_window_tries : Setting → ℕ → ℕ → ℕ
found_window_tries s n w = unwrap_or (option_map (λ (f : FoundWindowTries). f.tries) (find (λ (f : FoundWindowTries). (f.shard == n) && (f.window == w)) s.window_tries)) 0

-- other records

-- the same setting over other lists of records
abbrev pub over : Setting → List Stream → Setting
over s streams = record s { streams = streams }

-- each record of the first lists is in the second ones, at the same place of its shard
abbrev pub Extends : List Stream → List Stream → Type 0
Extends before after = (n i : ℕ) (r : Record) → slice_get (records_in before n) i ≡ Some r → slice_get (records_in after n) i ≡ Some r
