-- A ledger as a setting and a history, and what it keeps of them. This product's own.
use Rattle.std.specs.Prelude.{◌≡◌, ℕ, suc, ◌+◌, ◌-◌, ◌<◌, ◌≤◌, true, is_some, List, [], ◌∷◌, length, map, reverse, Some, IfSome, slice_get, vec_len, vec_capacity, if◌then◌else◌}
use Rattle.esm_model.specs.declared.limits.TheConstants.{MAX_ENTRIES}
use Rattle.esm_model.specs.declared.config.Config.{Config}
use Rattle.esm_model.specs.declared.lane.LaneId.{LaneId}
use Rattle.esm_model.specs.declared.entry.Entry.{Entry}
use Rattle.esm_model.specs.declared.entry.Entry.TheVariants.{Began, Ended}
use Rattle.esm_model.specs.Valid.{IsStreamConfig}
use Rattle.esm_model.specs.Setting.{Setting, Stream, Extends, over}
use Rattle.esm_model.specs.Entries.{last_moment, came_count, is_shut, shards_that_came, calls_begun, is_running}
use Rattle.esm_model.specs.Step.{Legal}
use Rattle.esm_journal_state.specs.SaidLists.{SaidLists}
use Rattle.esm_lanes.specs.Piece.{front_length}
use Rattle.esm_shard_index.specs.LaneView.{lane_in, running_count}
use Rattle.esm_shard_index.specs.LaneHistory.{HasFoundTries}
use Rattle.esm_shard_index.specs.WindowEntries.{has_entry}
use Rattle.esm_ledger.specs.declared.ledger.Ledger.{Ledger}
use Rattle.esm_ledger.specs.declared.shard.ShardLedger.{ShardLedger}
use Rattle.esm_ledger.specs.Shard.{IsShard, closing_in}

-- the history, newest entry first
abbrev pub past_of : Ledger → List Entry
past_of c = reverse c.history.items

abbrev pub stream_of : ShardLedger → Stream
stream_of x = record { shard = x.shard; records = x.records.items }

-- what it was opened with, and the records that came
abbrev pub setting_of : Ledger → Setting
setting_of c = record {
  config = c.config;
  calls = c.calls;
  streams = map stream_of c.shards.items;
  fates = c.found.fates;
  tries = c.found.tries;
  states = c.found.states;
  window_tries = c.found.window_tries;
}

-- the setting at opening: no record came
abbrev pub opened_with : Config → ℕ → SaidLists → Setting
opened_with config calls found = record { config = config; calls = calls; streams = []; fates = found.fates; tries = found.tries; states = found.states; window_tries = found.window_tries }

-- the history is legal over all lists of records that extend the setting's own
abbrev pub LegalOver : Setting → List Entry → Type 0
LegalOver s h = (streams : List Stream) → Extends s.streams streams → Legal (over s streams) h

-- the shard's place among those that came, and what is kept of it
abbrev pub IsAt : Ledger → ℕ → ShardLedger → Type 0
IsAt c n x = (i : ℕ) × (slice_get c.shards.items i ≡ Some x) × (x.shard ≡ n)

abbrev pub unended_after : ℕ → Entry → ℕ
unended_after before (Began lane places closing moment) = suc before
unended_after before (Ended lane reply moment) = before - 1
unended_after before _ = before

-- the number of calls that began and have not ended
abbrev pub unended : List Entry → ℕ
unended [] = 0
unended (e ∷ h) = unended_after (unended h) e

-- the entries for which there is always room: the ends of the calls that run, and the end of the input
abbrev pub spare_of : List Entry → ℕ
spare_of h = unended h + (if is_shut h then 0 else 1)

-- room for `n` more entries besides, and the history stays short
pub record HasRoom (c : Ledger) (n : ℕ) : Type 0 where
  pub room : vec_len c.history + spare_of (past_of c) + n ≤ vec_capacity c.history
  pub short : vec_len c.history + spare_of (past_of c) + n < MAX_ENTRIES

-- room for `n` shards that come for the first time
abbrev pub HasShardRoom : Ledger → ℕ → Type 0
HasShardRoom c n = vec_len c.shards + n ≤ vec_capacity c.shards

-- the lane's call may end
pub record MayEnd (x : ShardLedger) (lane : ℕ) : Type 0 where
  pub within : running_count (lane_in x.lanes lane).state.running ≤ front_length (lane_in x.lanes lane).kept.pieces
  pub few : (lane_in x.lanes lane).state.failures < 18446744073709551615

-- what holds of a ledger even if calls ended without a ruling
pub record Rests (c : Ledger) : Type 0 where
  pub legal : LegalOver (setting_of c) (past_of c)
  pub last : c.last ≡ last_moment (past_of c)
  pub shut : c.shut ≡ is_shut (past_of c)
  pub room : HasRoom c 0
  pub unended : c.unended ≡ unended (past_of c)
  pub shards : map (λ (x : ShardLedger). x.shard) c.shards.items ≡ shards_that_came (past_of c)
  pub factor : (n : ℕ) (x : ShardLedger) → IsAt c n x → length x.lanes.lanes ≡ c.config.factor
  pub runs : (lane : LaneId) (x : ShardLedger) → IsAt c lane.shard x → lane.lane < c.config.factor → is_running (past_of c) lane ≡ is_some (lane_in x.lanes lane.lane).state.running
  pub ends : (lane : LaneId) (x : ShardLedger) → IsAt c lane.shard x → is_running (past_of c) lane ≡ true → MayEnd x lane.lane

-- all that is kept says what the history says
pub record Keeps (c : Ledger) : Type 0 where
  pub rests : Rests c
  pub config : IsStreamConfig c.config
  pub found : (n : ℕ) → HasFoundTries (setting_of c) n
  pub each : (n : ℕ) (x : ShardLedger) → IsAt c n x → IsShard (setting_of c) (past_of c) x
  pub few : (n : ℕ) → came_count (past_of c) n < 4294967296
  pub begun : c.begun ≡ calls_begun (past_of c)
  pub calls : c.calls < 4294967296
  -- the end of each call that runs has its memory
  pub splits : (lane : LaneId) (x : ShardLedger) → IsAt c lane.shard x → is_running (past_of c) lane ≡ true → 2 ≤ (lane_in x.lanes lane.lane).kept.splits

-- the lane can take the end of a call
abbrev pub HasSplits : Ledger → LaneId → Type 0
HasSplits c lane = (x : ShardLedger) → IsAt c lane.shard x → 2 ≤ (lane_in x.lanes lane.lane).kept.splits

-- the window can take a state
abbrev pub HasState : Ledger → ℕ → ℕ → Type 0
HasState c n w = (x : ShardLedger) → IsAt c n x → has_entry x.windows.states w ≡ true

-- the window that the lane's call closes, if it closes one, can take a try
abbrev pub IsClosingPrepared : Ledger → LaneId → Type 0
IsClosingPrepared c lane = (x : ShardLedger) → IsAt c lane.shard x → IfSome (closing_in (lane_in x.lanes lane.lane).state.running) (λ w. has_entry x.windows.tries w ≡ true)
