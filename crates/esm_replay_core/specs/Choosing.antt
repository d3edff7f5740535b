-- What comes next, from what a core maintains. Only this crate's proofs cite this.
use Rattle.std.specs.Prelude.{◌≡◌, ℕ, ◌<◌, ◌≤◌, List, [], map, length, Option, Some, None}
use Rattle.std.specs.List.{All}
use Rattle.esm_model.specs.declared.config.Config.{Config}
use Rattle.esm_model.specs.Records.{Record}
use Rattle.esm_model.specs.declared.lane.LaneId.{LaneId}
use Rattle.esm_model.specs.declared.entry.Entry.{Entry}
use Rattle.esm_model.specs.Setting.{records_of, sequences_at}
use Rattle.esm_model.specs.EventText.{event_text}
use Rattle.esm_model.specs.Entries.{calls_begun}
use Rattle.esm_journal_state.specs.SaidLists.{SaidLists}
use Rattle.esm_replay_model.specs.declared.range.Range.{Range}
use Rattle.esm_replay_model.specs.ReplaySetting.{ReplaySetting, config_of}
use Rattle.esm_replay_model.specs.Pieces.{next_call}
use Rattle.esm_replay_model.specs.ReplayRun.{replay_lane, pieces_left}
use Rattle.esm_replay.specs.Records.{of_shard, setting_with}
use Rattle.esm_replay.specs.declared.parts.Parts.{Parts}
use Rattle.esm_replay.specs.Waiting.{Waiting, seen_pieces, front_of, IsPlaced}
use Rattle.esm_replay.specs.Ending.{EndsSo, StaysPlaced}
use Rattle.esm_replay_core.specs.declared.decisions.ReplayNext.{ReplayNext}
use Rattle.esm_replay_core.specs.declared.decisions.ReplayNext.TheVariants as next
use Rattle.esm_replay_core.specs.declared.owed.Owed.{Owed}
use Rattle.esm_replay_core.specs.declared.owed.Owed.TheVariants.{Nothing, Began}
use Rattle.esm_replay_core.specs.declared.choosing.Chosen.{Chosen}
use Rattle.esm_replay_core.specs.Deciding.{next_of}

-- what waits is what the history leaves to be called, over the records that arrived
pub record IsReady (s : ReplaySetting) (h : List Entry) (c : Config) (calls begun : ℕ) (rs : List Record) (w : Waiting) : Type 0 where
  pub config_is : config_of s ≡ c
  pub calls_is : s.base.calls ≡ calls
  pub begun_is : begun ≡ calls_begun h
  pub pieces : seen_pieces w.pieces ≡ pieces_left s h
  pub placed : All (IsPlaced s rs) w.pieces
  pub records : (n : ℕ) → records_of s.base n ≡ of_shard n rs

-- a call of a prefix of the first piece begins
pub record BeginsCall (s : ReplaySetting) (h : List Entry) (m : ℕ) (lane : LaneId) (places : List ℕ) (names : List (List ℕ)) (moment : ℕ) : Type 0 where
  pub lane_is : lane ≡ replay_lane (next_call s (pieces_left s h)).shard
  pub exact : places ≡ (next_call s (pieces_left s h)).places
  pub some : 1 ≤ length places
  pub calls_left : calls_begun h < s.base.calls
  pub names_are : names ≡ sequences_at s.base lane.shard places
  pub moment_is : moment ≡ m

-- what the answer owes
abbrev pub OwesNext : ReplaySetting → List Entry → ℕ → ReplayNext → Owed → Type 0
OwesNext s h m (next.Call job) (Began lane places names moment) = (lane ≡ job.lane) × (places ≡ job.places) × BeginsCall s h m lane places names moment
OwesNext s h m (next.Call job) _ = ⊥
OwesNext s h m next.Spent owed = owed ≡ Nothing
OwesNext s h m next.Finished owed = owed ≡ Nothing

pub record IsChosen (s : ReplaySetting) (h : List Entry) (m : ℕ) (chosen : Chosen) : Type 0 where
  pub answer : chosen.next ≡ next_of s h
  pub owes : OwesNext s h m chosen.next chosen.owed

-- the call of a batch of the shard begins
abbrev pub BeginsBatch : Config → ℕ → List ℕ → List Record → ℕ → ReplayNext → Owed → Type 0
BeginsBatch c n places rs m (next.Call job) (Began lane places' names moment) =
    (job ≡ record { lane = replay_lane n; places = places; closing = None; event = event_text c rs None })
    × (lane ≡ replay_lane n) × (places' ≡ places) × (names ≡ map (λ (r : Record). r.seq) rs) × (moment ≡ m)
BeginsBatch c n places rs m _ _ = ⊥

abbrev pub IsBegunOf : Config → ℕ → List ℕ → List Record → ℕ → Chosen → Type 0
IsBegunOf c n places rs m chosen = BeginsBatch c n places rs m chosen.next chosen.owed

-- what waits is what is still to be called; before a call was asked for, the history is empty
abbrev pub IsWaitingFor : ReplaySetting → List Record → List Entry → Option Waiting → Type 0
IsWaitingFor s rs h None = h ≡ []
IsWaitingFor s rs h (Some w) = (seen_pieces w.pieces ≡ pieces_left s h) × All (IsPlaced s rs) w.pieces

-- this still holds
abbrev pub StaysWaiting : SaidLists → List Range → List Record → Option Waiting → Option Waiting → Type 0
StaysWaiting told ranges rs old new =
    (c : Config) (calls : ℕ) (h : List Entry) → IsWaitingFor (setting_with c calls told ranges rs) rs h old → IsWaitingFor (setting_with c calls told ranges rs) rs h new

-- the same pieces wait, possibly with more room
abbrev pub IsRoomier : Option Waiting → Option Waiting → Type 0
IsRoomier None new = new ≡ None
IsRoomier (Some w) None = ⊥
IsRoomier (Some w) (Some w') = w'.pieces ≡ w.pieces

abbrev pub HasRoom : Waiting → Type 0
HasRoom w = 2 ≤ w.room

-- a call of `count` records can end
abbrev pub MayEndCall : ℕ → Option Waiting → Type 0
MayEndCall count None = ⊥
MayEndCall count (Some w) = (2 ≤ w.room) × (count ≤ length (front_of w.pieces))

-- it ended, and these parts of it remain
abbrev pub IsEndedBy : ℕ → Parts → Option Waiting → Option Waiting → Type 0
IsEndedBy count parts (Some w) (Some w') = EndsSo count parts w.pieces w'.pieces × StaysPlaced count parts w.pieces w'.pieces
IsEndedBy count parts _ _ = ⊥
