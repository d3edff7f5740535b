-- The invariant of a replay's core. Only this crate's proofs cite this.
use Rattle.std.specs.Prelude.{◌≡◌, ℕ, ◌+◌, ◌<◌, ◌≤◌, ◌^◌, List, [], ◌∷◌, ◌++◌, length, take, drop, reverse, Option, Some, None, IsSome, ⊤}
use Rattle.std.specs.List.{All}
use Rattle.std.specs.Vec.{vec_capacity}
use Rattle.std.specs.BTreeMap.{BTreeMap}
use Rattle.esm_model.specs.declared.limits.TheConstants.{MAX_PAYLOAD}
use Rattle.esm_model.specs.declared.moment.TheConstants.{MAX_MOMENT}
use Rattle.esm_model.specs.Records.{Record}
use Rattle.esm_model.specs.declared.lane.LaneId.{LaneId}
use Rattle.esm_model.specs.declared.entry.Reply.{Reply}
use Rattle.esm_model.specs.declared.entry.Entry.{Entry}
use Rattle.esm_model.specs.declared.entry.Entry.TheVariants as entry
use Rattle.esm_model.specs.Setting.{sequences_at}
use Rattle.esm_model.specs.Valid.{IsStreamConfig, IsValidRecord}
use Rattle.esm_model.specs.Entries.{calls_begun, last_moment}
use Rattle.esm_journal_record.specs.EntryPayload.{entry_payload}
use Rattle.esm_replay_model.specs.ReplaySetting.{ReplaySetting, config_of}
use Rattle.esm_replay_model.specs.ReplayReport.{named_count}
use Rattle.esm_replay_model.specs.Pieces.{replay_verdict}
use Rattle.esm_replay_model.specs.ReplayRun.{call_out, owed_replay, IsReplay}
use Rattle.esm_replay.specs.Records.{setting_with, are_named}
use Rattle.esm_replay.specs.declared.parts.Parts.{Parts as CallParts}
use Rattle.esm_replay.specs.Waiting.{Waiting, front_of}
use Rattle.esm_replay.specs.Ending.{front_call, ArePartsOf}
use Rattle.esm_replay_core.specs.declared.decisions.Opened.{Opened}
use Rattle.esm_replay_core.specs.declared.owed.Owed.{Owed}
use Rattle.esm_replay_core.specs.declared.owed.Owed.TheVariants.{Nothing, Coming, Began, Ended, Replayed, Left}
use Rattle.esm_replay_core.specs.declared.owed.Replay.{Replay}
use Rattle.esm_replay_core.specs.declared.replay_core.ReplayCore.TheInside.{Inside}
use Rattle.esm_replay_core.specs.Choosing.{IsWaitingFor}
use Rattle.esm_replay_core.specs.Owing.{replay_entry, replay_entries, owed_entries}
use Rattle.esm_replay_core.specs.Counts.{AreCounted, HasCount}
use Rattle.esm_replay_core.specs.View.{ReplayView}

-- the parts of a core: the records that arrived, those whose arrival is owed, and the history, newest entry first
pub record Parts : Type 0 where
  pub opened : Opened
  pub known : List Record
  pub coming : List Record
  pub counts : BTreeMap ℕ ℕ
  pub named : ℕ
  pub waiting : Option Waiting
  pub names : List (List ℕ)
  pub past : List Entry
  pub capacity : ℕ
  pub last : ℕ
  pub begun : ℕ
  pub owed : Owed

-- the setting over which the history is judged
abbrev pub setting_for : Opened → List Record → ReplaySetting
setting_for o rs = setting_with o.config o.calls o.said o.ranges rs

abbrev pub own : Parts → ReplaySetting
own p = setting_for p.opened p.known

abbrev pub seen_of : Parts → ReplayView
seen_of p = record { opened = p.opened; records = p.known; past = p.past; coming = p.coming; owed = owed_entries p.owed }

-- the payload of what is replayed is the one that the journal keeps for it
pub record IsWritten (s : ReplaySetting) (r : Replay) : Type 0 where
  pub payload : entry_payload s.base (replay_entry r) ≡ Some r.payload.items
  pub short : length r.payload.items ≤ MAX_PAYLOAD
  pub in_time : r.moment ≤ MAX_MOMENT

abbrev pub AreWritten : ReplaySetting → Option Replay → Type 0
AreWritten s None = ⊤
AreWritten s (Some r) = IsWritten s r

-- the running call can end so: its records are the first of the first piece, and the parts follow from its ruling
pub record EndsCall (p : Parts) (reply : Reply) (count : ℕ) (parts : CallParts) : Type 0 where
  pub waiting : Waiting
  pub waits : p.waiting ≡ Some waiting
  pub room : 2 ≤ waiting.room
  pub within : count ≤ length (front_of waiting.pieces)
  pub call : front_call count waiting.pieces ≡ call_out p.past
  pub parted : ArePartsOf (replay_verdict (own p) (call_out p.past) reply) count waiting.pieces parts

pub record OwesCall (p : Parts) (lane : LaneId) (places : List ℕ) (names : List (List ℕ)) (moment : ℕ) : Type 0 where
  pub none : p.coming ≡ []
  pub in_time : moment ≤ MAX_MOMENT
  pub room : length p.past + 1 ≤ p.capacity
  pub run : IsReplay (own p) (entry.Began lane places None moment ∷ p.past)
  pub names_are : names ≡ sequences_at (own p).base lane.shard places
  pub waits : IsSome p.waiting

pub record OwesEnd (p : Parts) (lane : LaneId) (reply : Reply) (moment count : ℕ) (parts : CallParts) (replay : Option Replay) : Type 0 where
  pub none : p.coming ≡ []
  pub in_time : moment ≤ MAX_MOMENT
  pub room : length p.past + 2 ≤ p.capacity
  pub run : IsReplay (own p) (replay_entries replay ++ entry.Ended lane reply moment ∷ p.past)
  pub written : AreWritten (own p) replay
  pub none_left : replay ≡ None → (owed_replay (own p) (entry.Ended lane reply moment ∷ p.past)).places ≡ []
  pub ends : EndsCall p reply count parts

pub record OwesReplay (p : Parts) (r : Replay) : Type 0 where
  pub none : p.coming ≡ []
  pub room : length p.past + 1 ≤ p.capacity
  pub run : IsReplay (own p) (replay_entry r ∷ p.past)
  pub written : IsWritten (own p) r

-- for each state of what is owed: no record is arriving, nothing else is required, and with it the history is a run
abbrev pub MayOwe : Parts → Owed → Type 0
MayOwe p Nothing = (p.coming ≡ []) × ((owed_replay (own p) p.past).places ≡ [])
MayOwe p Coming = (1 ≤ length p.coming) × (p.past ≡ []) × (p.waiting ≡ None)
MayOwe p (Began lane places names moment) = OwesCall p lane places names moment
MayOwe p (Ended lane reply moment count parts replay) = OwesEnd p lane reply moment count parts replay
MayOwe p (Replayed r) = OwesReplay p r
MayOwe p Left = p.coming ≡ []

-- the sequence numbers of the running call, if there is one
abbrev pub AreNames : Parts → Type 0
AreNames p = 1 ≤ length (call_out p.past).places → p.names ≡ sequences_at (own p).base (call_out p.past).shard (call_out p.past).places

pub record IsKept (p : Parts) : Type 0 where
  pub config : IsStreamConfig p.opened.config
  pub own_config : config_of (own p) ≡ p.opened.config
  pub valid : All IsValidRecord p.known
  pub valid_coming : All IsValidRecord p.coming
  pub few : length p.known + length p.coming < 2 ^ 32
  pub counts : AreCounted p.counts p.known
  pub keys : All (HasCount p.counts) p.coming
  pub named : p.named ≡ named_count (own p)
  pub named_few : p.named ≤ length p.known
  pub run : IsReplay (own p) p.past
  pub last : p.last ≡ last_moment p.past
  pub in_time : p.last ≤ MAX_MOMENT
  pub begun : p.begun ≡ calls_begun p.past
  pub waiting : IsWaitingFor (own p) p.known p.past p.waiting
  pub names_are : AreNames p
  pub owed : MayOwe p p.owed

-- the parts of the struct

abbrev pub parts_of : Inside → Parts
parts_of c = record {
  opened = record { config = c.config; calls = c.calls; said = c.said; ranges = c.ranges };
  known = take c.came c.records.items;
  coming = drop c.came c.records.items;
  counts = c.counts;
  named = c.named;
  waiting = c.waiting;
  names = c.names;
  past = reverse c.history.items;
  capacity = vec_capacity c.history;
  last = c.last;
  begun = c.begun;
  owed = c.owed;
}

abbrev pub view_of : Inside → ReplayView
view_of c = seen_of (parts_of c)

abbrev pub IsCore : Inside → Type 0
IsCore c = IsKept (parts_of c) × (c.came ≤ length c.records.items) × (c.are_named.items ≡ are_named c.said c.ranges [] c.records.items)
