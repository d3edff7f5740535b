-- Which histories, newest entry first, are runs of a replay: the conditions of each kind of entry. A replay has one thread,
-- so a call ends before anything else happens. This product's own.
use Rattle.std.specs.Prelude.{◌≡◌, ℕ, ◌<◌, ◌≤◌, List, [], ◌∷◌, ◌++◌, length, Some, None, ⊤}
use Rattle.esm_model.specs.declared.lane.LaneId.{LaneId}
use Rattle.esm_model.specs.declared.called.Called.{Called}
use Rattle.esm_model.specs.declared.entry.Entry.{Entry}
use Rattle.esm_model.specs.declared.entry.Entry.TheVariants.{Came, Began, Ended, Gave, Tried, Closed, Replayed, Shut}
use Rattle.esm_model.specs.Entries.{moment_of, last_moment, calls_begun}
use Rattle.esm_model.specs.Step.{IsLater}
use Rattle.esm_replay_model.specs.ReplaySetting.{ReplaySetting, config_of}
use Rattle.esm_replay_model.specs.Pieces.{ReplayPiece, piece, no_piece, first_pieces, replay_event, next_call, succeeded_of, pieces_after_call}

-- what a history says

-- the lane of a shard, which has only one in a replay
abbrev pub replay_lane : ℕ → LaneId
replay_lane n = record { shard = n; lane = 0 }

abbrev pub call_by : Entry → ReplayPiece
call_by (Began lane places closing moment) = piece lane.shard places
call_by _ = no_piece

-- the records of the running call, which is the one that the newest entry began
abbrev pub call_out : List Entry → ReplayPiece
call_out [] = no_piece
call_out (e ∷ h) = call_by e

abbrev pub owed_by : ReplaySetting → List Entry → Entry → ReplayPiece
owed_by s h (Ended lane reply moment) = succeeded_of s (call_out h) reply
owed_by s h _ = no_piece

-- the records that succeeded in the call that the newest entry ended: if there are any, a `Replayed` of them is owed
abbrev pub owed_replay : ReplaySetting → List Entry → ReplayPiece
owed_replay s [] = no_piece
owed_replay s (e ∷ h) = owed_by s h e

abbrev pub pieces_after : ReplaySetting → List Entry → List ReplayPiece → Entry → List ReplayPiece
pieces_after s h before (Ended lane reply moment) = pieces_after_call s (call_out h) reply before
pieces_after s h before _ = before

-- the pieces that are still to be called, the next first
abbrev pub pieces_left : ReplaySetting → List Entry → List ReplayPiece
pieces_left s [] = first_pieces s
pieces_left s (e ∷ h) = pieces_after s h (pieces_left s h) e

-- the conditions of each entry

-- a call may begin: that of the front of the first piece
pub record MayBeginReplay (s : ReplaySetting) (h : List Entry) (lane : LaneId) (places : List ℕ) : Type 0 where
  pub rests : (call_out h).places ≡ []
  pub paid : (owed_replay s h).places ≡ []
  pub calls_left : calls_begun h < s.base.calls
  pub lane_is : lane ≡ replay_lane (next_call s (pieces_left s h)).shard
  pub exact : places ≡ (next_call s (pieces_left s h)).places
  pub some : 1 ≤ length places

-- the running call may end
pub record MayEndReplay (s : ReplaySetting) (h : List Entry) (lane : LaneId) : Type 0 where
  pub lane_is : lane ≡ replay_lane (call_out h).shard
  pub runs : 1 ≤ length (call_out h).places

-- the records that succeeded in it may be replayed
pub record MayReplay (s : ReplaySetting) (h : List Entry) (shard : ℕ) (places : List ℕ) (m : ℕ) : Type 0 where
  pub shard_is : shard ≡ (owed_replay s h).shard
  pub exact : places ≡ (owed_replay s h).places
  pub some : 1 ≤ length places
  pub same_moment : m ≡ last_moment h

-- the conditions of each entry; in a replay's run nothing arrives, and no fate is given
abbrev pub ReplayMayFollow : ReplaySetting → List Entry → Entry → Type 0
ReplayMayFollow s h (Came shard first count moment) = ⊥
ReplayMayFollow s h (Began lane places None moment) = MayBeginReplay s h lane places
ReplayMayFollow s h (Began lane places (Some window) moment) = ⊥
ReplayMayFollow s h (Ended lane reply moment) = MayEndReplay s h lane
ReplayMayFollow s h (Gave by shard places fate line state moment) = ⊥
ReplayMayFollow s h (Tried lane places closing tries moment) = ⊥
ReplayMayFollow s h (Closed lane window moment) = ⊥
ReplayMayFollow s h (Replayed shard places moment) = MayReplay s h shard places moment
ReplayMayFollow s h (Shut moment) = ⊥

-- a history is a run of the replay if it is empty, or if it is a run and an entry that may follow it
abbrev pub IsReplay : ReplaySetting → List Entry → Type 0
IsReplay s [] = ⊤
IsReplay s (e ∷ h) = IsReplay s h × (IsLater h (moment_of e) × ReplayMayFollow s h e)

-- calls

abbrev pub replay_calls_after : ReplaySetting → (List ℕ → List ℕ) → List Entry → List Called → Entry → List Called
replay_calls_after s sends h before (Ended lane reply moment) =
    before ++ record { name = (config_of s).function; event = sends (replay_event s (call_out h)); reply = reply } ∷ []
replay_calls_after s sends h before _ = before

-- the calls that ended, oldest first, as the caller logs them; `sends` maps an event to the bytes that the caller sends
abbrev pub replay_calls : ReplaySetting → (List ℕ → List ℕ) → List Entry → List Called
replay_calls s sends [] = []
replay_calls s sends (e ∷ h) = replay_calls_after s sends h (replay_calls s sends h) e
