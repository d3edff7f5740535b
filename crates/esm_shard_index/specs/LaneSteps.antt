-- What one more entry does to a kept lane, and what is read of the lane. This product's own.
use Rattle.std.specs.Prelude.{◌≡◌, ℕ, ◌+◌, ◌<◌, ◌≤◌, ◌==◌, Bool, List, [], ◌∷◌, length, Some, if◌then◌else◌, slice_index, IsSome}
use Rattle.esm_model.specs.declared.moment.TheConstants.{MAX_MOMENT}
use Rattle.esm_model.specs.Lane.{same_lane}
use Rattle.esm_model.specs.declared.lane.LaneId.{LaneId}
use Rattle.esm_model.specs.declared.entry.Fate.TheVariants.{Expired}
use Rattle.esm_model.specs.declared.entry.Entry.{Entry}
use Rattle.esm_model.specs.declared.entry.Entry.TheVariants.{Came, Began, Ended, Gave}
use Rattle.esm_model.specs.Setting.{Setting}
use Rattle.esm_model.specs.Entries.{Call, came_count, calls_begun, last_call}
use Rattle.esm_model.specs.Fates.{open_places}
use Rattle.esm_model.specs.Tries.{tries, tries_of, is_fresh, verdict_after}
use Rattle.esm_model.specs.Batches.{group}
use Rattle.esm_lanes.specs.Piece.{IsFront, front_length}
use Rattle.esm_lanes.specs.Piece as piece
use Rattle.esm_shard_index.specs.LaneView.{LaneView, empty_view, front_places, front_tries, running_count, after_arrivals, after_began, after_ended, after_expired}
use Rattle.esm_shard_index.specs.LaneHistory.{arriving, standing_at}

-- records of its shard come, a call of it begins or ends, or records of it expire; every other entry leaves it
abbrev pub after_entry : Setting → List Entry → LaneId → LaneView → Entry → LaneView
after_entry s h lane v (Came n first count moment) = if n == lane.shard then after_arrivals (standing_at s n) (arriving s lane first count) v else v
after_entry s h lane v (Began at places closing moment) = if same_lane at lane then after_began (record { count = length places; closing = closing }) v else v
after_entry s h lane v (Ended at reply moment) = if same_lane at lane then after_ended (verdict_after s h lane reply) moment v else v
after_entry s h lane v (Gave (Some at) n places Expired line state moment) = if same_lane at lane then after_expired (length places) v else v
after_entry s h lane v _ = v

-- a lane that is kept from the start
abbrev pub lane_told : Setting → List Entry → LaneId → LaneView
lane_told s [] lane = empty_view
lane_told s (e ∷ h) lane = after_entry s h lane (lane_told s h lane) e

-- these places are the lane's group; whether its first record is fresh, and the tries of that record
pub record IsGroupOf (s : Setting) (h : List Entry) (lane : LaneId) (places : List ℕ) (fresh : Bool) (count : ℕ) : Type 0 where
  pub group : group s h lane ≡ places
  pub fresh_is : is_fresh s h lane.shard (slice_index places 0) ≡ fresh
  pub tries : tries s h lane.shard (slice_index places 0) ≡ count

-- the open records of the lane are those of the pieces, and its group is the front piece
pub record IsGrouped (s : Setting) (h : List Entry) (lane : LaneId) (v : LaneView) : Type 0 where
  pub opens : open_places s h lane ≡ piece.open_places v.kept.pieces
  pub group : group s h lane ≡ front_places v.kept.pieces
  pub front : (places : List ℕ) (fresh : Bool) (count : ℕ) → IsFront v.kept.pieces places fresh count → IsGroupOf s h lane places fresh count

-- the lane's last call has the tries of the front piece
abbrev pub HasCallTries : Setting → List Entry → LaneId → LaneView → Type 0
HasCallTries s h lane v = (call : Call) → last_call h lane ≡ Some call → tries_of s h lane.shard call ≡ front_tries v.kept.pieces

-- no more places than records came, no more failures than calls began, fewer while a call runs; the last end is a
-- moment, and a call has no more places than the front piece
pub record IsBounded (h : List Entry) (lane : LaneId) (v : LaneView) : Type 0 where
  pub places : length (piece.open_places v.kept.pieces) ≤ came_count h lane.shard
  pub failures : v.state.failures ≤ calls_begun h
  pub running : IsSome v.state.running → v.state.failures < calls_begun h
  pub last_end : v.state.last_end ≤ MAX_MOMENT
  pub called : running_count v.state.running ≤ front_length v.kept.pieces

-- records that come add no more places than they are, and use no more reserved arrivals
pub record ArrivalsFit (s : Setting) (lane : LaneId) (first count : ℕ) (before after : LaneView) : Type 0 where
  pub places : length (piece.open_places after.kept.pieces) ≤ length (piece.open_places before.kept.pieces) + count
  pub adds : before.kept.adds ≤ after.kept.adds + count
