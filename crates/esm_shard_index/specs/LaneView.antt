-- A lane as a stream's book keeps it, and what the calls do to it. Source: the Lambda Developer Guide, error handling
-- for Kinesis (`BisectBatchOnFunctionError`, `MaximumRetryAttempts`, `ReportBatchItemFailures`); the pieces and the
-- delay after a failure are this product's own.
use Rattle.std.specs.Prelude.{ℕ, ◌+◌, ◌-◌, ◌==◌, min, List, [], ◌∷◌, Option, Some, None, if◌then◌else◌, slice_index_or}
use Rattle.esm_model.specs.declared.verdict.Rest.{Rest}
use Rattle.esm_model.specs.declared.verdict.Rest.TheVariants as rest
use Rattle.esm_model.specs.declared.verdict.Verdict.{Verdict}
use Rattle.esm_model.specs.Ruling.{capped_tries}
use Rattle.esm_model.specs.Batches.{failures_by}
use Rattle.esm_lanes.specs.declared.standing.Standing.{Standing}
use Rattle.esm_lanes.specs.declared.standing.Standing.TheVariants.{Fresh, Tried}
use Rattle.esm_lanes.specs.Piece.{Piece, Lane, tries_of, empty_lane, lane_at, after_add, after_split, after_shorten, after_reserve}
use Rattle.esm_shard_index.specs.declared.lane_state.LaneState.{LaneState}
use Rattle.esm_shard_index.specs.declared.lane_state.Running.{Running}

-- the pieces of each lane, and beside them its state
pub record Table : Type 0 where
  pub lanes : List Lane
  pub states : List LaneState

-- one lane: its pieces with what is reserved for it, and its state
pub record LaneView : Type 0 where
  pub kept : Lane
  pub state : LaneState

-- no call runs, and none has ended
abbrev pub idle : LaneState
idle = record { running = None; failures = 0; last_end = 0 }

-- a lane with no place
abbrev pub empty_view : LaneView
empty_view = record { kept = empty_lane; state = idle }

abbrev pub state_at : List LaneState → ℕ → LaneState
state_at states n = slice_index_or states n idle

-- the lane of this number
abbrev pub lane_in : Table → ℕ → LaneView
lane_in t n = record { kept = lane_at t.lanes n; state = state_at t.states n }

-- a record without found tries is fresh, any other has those
abbrev pub standing_of : Option ℕ → Standing
standing_of None = Fresh
standing_of (Some tries) = Tried tries

-- the tries of the front piece, 0 if there is none
abbrev pub front_tries : List Piece → ℕ
front_tries [] = 0
front_tries (p ∷ rest) = tries_of p.standing

-- the places of the front piece
abbrev pub front_places : List Piece → List ℕ
front_places [] = []
front_places (p ∷ rest) = p.places

-- the number of places of a call; a final call has none
abbrev pub running_count : Option Running → ℕ
running_count None = 0
running_count (Some r) = r.count

-- what the calls do to a lane

abbrev pub after_came : Standing → ℕ → LaneView → LaneView
after_came standing place v = record { kept = after_add standing place v.kept; state = v.state }

-- the places come one after the other, each with its standing
abbrev pub after_arrivals : (ℕ → Standing) → List ℕ → LaneView → LaneView
after_arrivals standing [] v = v
after_arrivals standing (i ∷ places) v = after_arrivals standing places (after_came (standing i) i v)

abbrev pub began : Running → LaneState → LaneState
began r state = record { running = Some r; failures = state.failures; last_end = state.last_end }

abbrev pub after_began : Running → LaneView → LaneView
after_began r v = record { kept = v.kept; state = began r v.state }

abbrev pub after_expired : ℕ → LaneView → LaneView
after_expired count v = record { kept = after_shorten count v.kept; state = v.state }

abbrev pub after_reserved : ℕ → ℕ → LaneView → LaneView
after_reserved adds splits v = record { kept = after_reserve adds splits v.kept; state = v.state }

-- the end of a call

-- the first places of the front piece, if any, become a piece with these tries
abbrev pub set_apart : ℕ → ℕ → Lane → Lane
set_apart first tries l = if first == 0 then l else after_split first tries l

-- the rest of a batch, the first `left` places of the front piece: it stays, has one more try, is halved, or is given up
abbrev pub after_rest : Rest → ℕ → Lane → Lane
after_rest rest.Nothing left l = l
after_rest rest.Again left l = l
after_rest rest.Counted left l = set_apart left (capped_tries (front_tries l.pieces + 1)) l
after_rest (rest.Split k) left l = set_apart (min k left) (front_tries l.pieces) (set_apart left (front_tries l.pieces) l)
after_rest rest.Exhausted left l = after_shorten left l

-- of a batch of `count` places, those that succeeded leave the lane
abbrev pub after_batch : Verdict → ℕ → Lane → Lane
after_batch v count l = after_rest v.rest (count - min v.succeeded count) (after_shorten (min v.succeeded count) l)

abbrev pub ended : Verdict → ℕ → LaneState → LaneState
ended v m state = record { running = None; failures = failures_by v.rest state.failures; last_end = m }

abbrev pub after_ended : Verdict → ℕ → LaneView → LaneView
after_ended verdict m v = record { kept = after_batch verdict (running_count v.state.running) v.kept; state = ended verdict m v.state }
