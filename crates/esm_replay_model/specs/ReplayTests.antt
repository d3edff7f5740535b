-- Runs of a replay as a test that computes. A history that passes is a run; the worked histories are proved to be runs by
-- it.
use Rattle.std.specs.Prelude.{ℕ, ◌==◌, nat_le, nat_lt, Bool, true, false, ◌&&◌, List, [], ◌∷◌, length, Some, None}
use Rattle.std.specs.Str.{bytes_eq}
use Rattle.esm_model.specs.declared.moment.TheConstants.{MAX_MOMENT}
use Rattle.esm_model.specs.Lane.{same_lane}
use Rattle.esm_model.specs.declared.lane.LaneId.{LaneId}
use Rattle.esm_model.specs.declared.entry.Entry.{Entry}
use Rattle.esm_model.specs.declared.entry.Entry.TheVariants.{Came, Began, Ended, Gave, Tried, Closed, Replayed, Shut}
use Rattle.esm_model.specs.Entries.{moment_of, last_moment, calls_begun}
use Rattle.esm_replay_model.specs.ReplaySetting.{ReplaySetting}
use Rattle.esm_replay_model.specs.Pieces.{ReplayPiece, next_call}
use Rattle.esm_replay_model.specs.ReplayRun.{replay_lane, call_out, owed_replay, pieces_left}

abbrev pub is_later_moment : List Entry → ℕ → Bool
is_later_moment h m = nat_le (last_moment h) m && nat_le m MAX_MOMENT

-- the lane and the places are those of the piece, which has some
abbrev pub is_piece : ReplayPiece → LaneId → List ℕ → Bool
is_piece p lane places = same_lane lane (replay_lane p.shard) && (bytes_eq places p.places && nat_le 1 (length places))

abbrev pub may_begin_replay : ReplaySetting → List Entry → LaneId → List ℕ → Bool
may_begin_replay s h lane places =
    bytes_eq (call_out h).places []
    && (bytes_eq (owed_replay s h).places [] && (nat_lt (calls_begun h) s.base.calls && is_piece (next_call s (pieces_left s h)) lane places))

abbrev pub may_end_replay : List Entry → LaneId → Bool
may_end_replay h lane = same_lane lane (replay_lane (call_out h).shard) && nat_le 1 (length (call_out h).places)

abbrev pub may_replay : ReplaySetting → List Entry → ℕ → List ℕ → ℕ → Bool
may_replay s h shard places m = is_piece (owed_replay s h) (replay_lane shard) places && (m == last_moment h)

abbrev pub may_follow_replay : ReplaySetting → List Entry → Entry → Bool
may_follow_replay s h (Came shard first count moment) = false
may_follow_replay s h (Began lane places None moment) = may_begin_replay s h lane places
may_follow_replay s h (Began lane places (Some window) moment) = false
may_follow_replay s h (Ended lane reply moment) = may_end_replay h lane
may_follow_replay s h (Gave by shard places fate line state moment) = false
may_follow_replay s h (Tried lane places closing tries moment) = false
may_follow_replay s h (Closed lane window moment) = false
may_follow_replay s h (Replayed shard places moment) = may_replay s h shard places moment
may_follow_replay s h (Shut moment) = false

-- each entry may follow those before it
abbrev pub is_replay : ReplaySetting → List Entry → Bool
is_replay s [] = true
is_replay s (e ∷ h) = is_replay s h && (is_later_moment h (moment_of e) && may_follow_replay s h e)
