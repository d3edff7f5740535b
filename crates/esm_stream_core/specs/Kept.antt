-- What is kept of a stream's history and of what is owed, and what a decision leaves. Only this crate's proofs cite this.
use Rattle.std.specs.Prelude.{◌≡◌, ℕ, ◌+◌, ◌<◌, ◌≤◌, not, List, [], ◌∷◌, length, filter, drop, vec_len, vec_capacity, if◌then◌else◌}
use Rattle.esm_model.specs.declared.limits.TheConstants.{MAX_ENTRIES}
use Rattle.esm_model.specs.declared.moment.TheConstants.{MAX_MOMENT}
use Rattle.esm_model.specs.declared.lane.LaneId.{LaneId}
use Rattle.esm_model.specs.declared.entry.Entry.{Entry}
use Rattle.esm_model.specs.declared.entry.Entry.TheVariants as entry
use Rattle.esm_model.specs.Setting.{Setting, Stream}
use Rattle.esm_model.specs.Lane.{same_lane}
use Rattle.esm_model.specs.Entries.{last_moment, is_shut, came_count, calls_begun}
use Rattle.esm_shard_index.specs.Progress.{IsProgress}
use Rattle.esm_ledger.specs.declared.ledger.Ledger.{Ledger}
use Rattle.esm_ledger.specs.declared.coming.Coming.{Coming}
use Rattle.esm_ledger.specs.declared.shard.ShardLedger.{ShardLedger}
use Rattle.esm_ledger.specs.Ledger.{past_of, setting_of, LegalOver, IsAt, HasRoom, Keeps}
use Rattle.esm_outcome.specs.Ending.{SettledOver}
use Rattle.esm_record_bounds.specs.Bounds.{AreWithinBounds}
use Rattle.esm_stream_core.specs.declared.owed.Owed.{Owed}
use Rattle.esm_stream_core.specs.declared.standing.Standing.{Standing}
use Rattle.esm_stream_core.specs.declared.standing.Standing.TheVariants.{Whole, Paying, Left}
use Rattle.esm_stream_core.specs.CoreView.{CoreView, setting_after, setting_with, FirstFollows, lines_of}
use Rattle.esm_stream_core.specs.Acts.{entries_of, parts_of, AreWritten}
use Rattle.esm_stream_core.specs.Adding.{costs, ArePayable}

-- room

-- the lanes whose last call has not ended
abbrev pub lanes_after : List LaneId → Entry → List LaneId
lanes_after before (entry.Began lane places closing moment) = lane ∷ before
lanes_after before (entry.Ended lane reply moment) = filter (λ at. not (same_lane lane at)) before
lanes_after before _ = before

abbrev pub running_lanes : List Entry → List LaneId
running_lanes [] = []
running_lanes (e ∷ h) = lanes_after (running_lanes h) e

-- the ends of the calls that run, and the end of the input
abbrev pub ends_of : List Entry → ℕ
ends_of h = length (running_lanes h) + (if is_shut h then 0 else 1)

-- there is room for them in the history
pub record HasPlaces (c : Ledger) : Type 0 where
  pub room : vec_len c.history + ends_of (past_of c) ≤ vec_capacity c.history
  pub short : vec_len c.history + ends_of (past_of c) < MAX_ENTRIES

-- how far more is decided

-- the entries may be added one after another, each with the part that comes with it, and then nothing more is required
abbrev pub MayAdd : Setting → List Entry → List Stream → List Entry → Type 0
MayAdd s h parts [] = SettledOver s h
MayAdd s h parts (e ∷ es) = LegalOver (setting_after s parts) (e ∷ h) × MayAdd (setting_after s parts) (e ∷ h) (drop 1 parts) es

-- the ledger keeps what the history says, and can add what is owed; then nothing more is required
pub record Stands (c : Ledger) (xs : List Coming) (owed : List Owed) : Type 0 where
  pub keeps : Keeps c
  pub settles : MayAdd (setting_of c) (past_of c) (parts_of xs) (entries_of owed)
  pub room : HasRoom c (costs owed)
  pub payable : ArePayable c xs owed

-- the shards that are kept came, no other did, and their fates are kept
pub record AreCounted (c : Ledger) : Type 0 where
  pub some : (n : ℕ) (x : ShardLedger) → IsAt c n x → 1 ≤ came_count (past_of c) n
  pub none : (n : ℕ) → ((x : ShardLedger) → IsAt c n x → ⊥) → came_count (past_of c) n ≡ 0
  pub each : (n : ℕ) (x : ShardLedger) → IsAt c n x → IsProgress (setting_of c) (past_of c) n x.progress

pub record IsLeft (c : Ledger) : Type 0 where
  pub places : HasPlaces c
  pub shut : c.shut ≡ is_shut (past_of c)
  pub begun : c.begun ≡ calls_begun (past_of c)
  pub counted : AreCounted c

abbrev pub StandsSo : Ledger → List Coming → List Owed → Standing → Type 0
StandsSo c xs owed Whole = Stands c xs owed × SettledOver (setting_of c) (past_of c)
StandsSo c xs owed Paying = Stands c xs owed
StandsSo c xs owed Left = IsLeft c × FirstFollows (setting_with (setting_of c) (parts_of xs)) (past_of c) (entries_of owed)

-- all that is kept; what is coming and what is owed is listed oldest first
pub record IsKept (c : Ledger) (xs : List Coming) (owed : List Owed) (standing : Standing) : Type 0 where
  pub last : c.last ≡ last_moment (past_of c)
  pub in_time : c.last ≤ MAX_MOMENT
  pub written : AreWritten (setting_with (setting_of c) (parts_of xs)) owed
  pub lines : length (lines_of (entries_of owed)) ≤ 1
  pub bounds : AreWithinBounds (setting_with (setting_of c) (parts_of xs))
  pub stands : StandsSo c xs owed standing

-- what a decision leaves

-- only memory was taken
pub record IsSame (c d : Ledger) : Type 0 where
  pub keeps : Keeps d
  pub past : past_of d ≡ past_of c
  pub setting : setting_of d ≡ setting_of c

-- what is decided, of a ledger that prepared it
pub record Decides (c d : Ledger) (xs : List Coming) (owed : List Owed) : Type 0 where
  pub same : IsSame c d
  pub room : HasRoom d (costs owed)
  pub payable : ArePayable d xs owed
  pub may : MayAdd (setting_of c) (past_of c) (parts_of xs) (entries_of owed)
  pub written : AreWritten (setting_with (setting_of c) (parts_of xs)) owed
  pub lines : length (lines_of (entries_of owed)) ≤ 1
  pub bounds : AreWithinBounds (setting_with (setting_of c) (parts_of xs))

-- what is decided by

-- the ledger keeps the setting and the history, nothing more is required, and nothing was left
pub record IsLedgerOf (v : CoreView) (c : Ledger) : Type 0 where
  pub whole : v.standing ≡ Whole
  pub keeps : Keeps c
  pub setting : setting_of c ≡ v.setting
  pub past : past_of c ≡ v.past
  pub legal : LegalOver v.setting v.past
  pub settled : SettledOver v.setting v.past
  pub bounds : AreWithinBounds v.setting
