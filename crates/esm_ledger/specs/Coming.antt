-- Records of a shard that a ledger is about to take, and the setting with them. This product's own.
use Rattle.std.specs.Prelude.{◌≡◌, ℕ, ◌+◌, ◌<◌, ◌≤◌, ◌==◌, Bool, false, not, is_some, List, [], ◌∷◌, ◌++◌, length, Option, Some, None, slice_get, slice_set, slice_index_or, if◌then◌else◌}
use Rattle.std.specs.List.{All}
use Rattle.esm_model.specs.Records.{Record}
use Rattle.esm_model.specs.Setting.{Setting, Stream, over, found_fate}
use Rattle.esm_model.specs.Entries.{holds, came_count, shards_that_came}
use Rattle.esm_model.specs.declared.entry.Entry.{Entry}
use Rattle.esm_model.specs.declared.entry.Entry.TheVariants.{Came}
use Rattle.esm_model.specs.Owed.{is_refused}
use Rattle.esm_model.specs.Step.{Legal}
use Rattle.esm_shard_index.specs.LaneView.{lane_in}
use Rattle.esm_shard_index.specs.LaneHistory.{HasFoundTries}
use Rattle.esm_ledger.specs.declared.arriving.Arriving.{Arriving}
use Rattle.esm_ledger.specs.declared.coming.Coming.{Coming}
use Rattle.esm_ledger.specs.declared.ledger.Ledger.{Ledger}
use Rattle.esm_ledger.specs.declared.shard.ShardLedger.{ShardLedger}
use Rattle.esm_ledger.specs.Shard.{IsShard, SameSplits}
use Rattle.esm_ledger.specs.Arriving.{AreArriving, IsEven, IsWithin, HasRoomFor, FitsNumbers}
use Rattle.esm_ledger.specs.Ledger.{past_of, setting_of, IsAt}

-- the records are the next of their shard
abbrev pub with_list : List Stream → ℕ → List Record → List Stream
with_list [] n records = record { shard = n; records = records } ∷ []
with_list (t ∷ ts) n records = if t.shard == n then record { shard = t.shard; records = t.records ++ records } ∷ ts else t ∷ with_list ts n records

abbrev pub grown : Setting → ℕ → List Record → Setting
grown s n records = over s (with_list s.streams n records)

-- the new tables of a shard that comes for the first time, as a list
abbrev pub listed : Option ShardLedger → List ShardLedger
listed None = []
listed (Some y) = y ∷ []

-- the shard can take the records
pub record CanTake (x : ShardLedger) (a : Arriving) : Type 0 where
  pub room : HasRoomFor x a
  pub few : FitsNumbers x a
  pub within : All (IsWithin (length x.lanes.lanes)) a.landings.items

-- one of the shards took them
pub record Takes (xs ys : List ShardLedger) (n m : ℕ) (a : Arriving) : Type 0 where
  pub place : ℕ
  pub was : ShardLedger
  pub now : ShardLedger
  pub at : slice_get xs place ≡ Some was
  pub there : was.shard ≡ n
  pub items : ys ≡ slice_set xs place now
  pub shard : now.shard ≡ was.shard
  pub records : now.records.items ≡ was.records.items ++ a.records.items
  pub splits : SameSplits was.lanes now.lanes
  pub running : (k : ℕ) → (lane_in now.lanes k).state ≡ (lane_in was.lanes k).state
  pub states : now.windows.states ≡ was.windows.states
  pub tries : now.windows.tries ≡ was.windows.tries
  pub goes : (s : Setting) (h : List Entry) → HasFoundTries s was.shard → Legal s (Came was.shard (came_count h was.shard) (length a.records.items) m ∷ h) → AreArriving s was.shard (came_count h was.shard) a → IsShard s h was → IsShard s (Came was.shard (came_count h was.shard) (length a.records.items) m ∷ h) now

-- there is memory for the records of a shard with all that is kept of them; if the shard did not come before, its new tables
-- are there
pub record IsComing (c : Ledger) (x : Coming) : Type 0 where
  pub some : 1 ≤ length x.arriving.records.items
  pub shard : All (λ (r : Record). r.shard ≡ x.shard) x.arriving.records.items
  pub even : IsEven x.arriving
  pub few : came_count (past_of c) x.shard + length x.arriving.records.items < 4294967296
  pub within : All (IsWithin c.config.factor) x.arriving.landings.items
  pub stand : AreArriving (grown (setting_of c) x.shard x.arriving.records.items) x.shard (came_count (past_of c) x.shard) x.arriving
  pub known : (y : ShardLedger) → IsAt c x.shard y → HasRoomFor y x.arriving
  pub named : is_some x.fresh ≡ not (holds (shards_that_came (past_of c)) x.shard)
  pub fresh : (y : ShardLedger) → x.fresh ≡ Some y → (y.shard ≡ x.shard) × IsShard (setting_of c) (past_of c) y × HasRoomFor y x.arriving

-- whether each record from the place on passes the filter; of one with a found fate this may say either
pub record TellsPassing (s : Setting) (n first : ℕ) (rs : List Record) (passing : List Bool) : Type 0 where
  pub all : length passing ≡ length rs
  pub each : (k : ℕ) (r : Record) → slice_get rs k ≡ Some r → found_fate s n (first + k) ≡ None → slice_index_or passing k false ≡ not (is_refused s r)
