-- A decision as an answer and as the entries that it adds, over all records that may still come. This product's own.
use Rattle.std.specs.Prelude.{◌≡◌, ℕ, ◌<◌, ◌≤◌, ⊤, true, List, [], ◌∷◌, length, Option, Some, None}
use Rattle.esm_model.specs.declared.limits.TheConstants.{MAX_SHARD, MAX_DATA}
use Rattle.esm_model.specs.declared.moment.TheConstants.{MAX_MOMENT}
use Rattle.esm_model.specs.Records.{Record}
use Rattle.esm_model.specs.declared.lane.LaneId.{LaneId}
use Rattle.esm_model.specs.declared.book.Next.{Next}
use Rattle.esm_model.specs.declared.book.Next.TheVariants as next
use Rattle.esm_model.specs.declared.entry.Fate.TheVariants.{Expired}
use Rattle.esm_model.specs.declared.entry.Entry.{Entry}
use Rattle.esm_model.specs.declared.entry.Entry.TheVariants.{Began, Gave}
use Rattle.esm_model.specs.Valid.{IsValidRecord}
use Rattle.esm_model.specs.Setting.{Setting, Stream, Extends, over, record_at}
use Rattle.esm_model.specs.Entries.{came_count}
use Rattle.esm_model.specs.Windows.{kept_state}
use Rattle.esm_model.specs.FailureLine.{failure_line}
use Rattle.esm_ledger.specs.declared.ledger.Ledger.{Ledger}
use Rattle.esm_ledger.specs.Ledger.{past_of, setting_of}
use Rattle.esm_next.specs.Following.{expiring, next_of}
use Rattle.esm_next.specs.declared.decision.Decision.{Decision}
use Rattle.esm_next.specs.declared.decision.Decision.TheVariants as decision

-- over all lists of records that extend those that came
abbrev pub OverAll : Ledger → (Setting → Type 0) → Type 0
OverAll c P = (streams : List Stream) → Extends (setting_of c).streams streams → P (over (setting_of c) streams)

-- what the batcher is answered
abbrev pub answer_of : Decision → Next
answer_of (decision.Call job) = next.Call job
answer_of (decision.Expire lane places line) = next.Gave (length places)
answer_of (decision.Idle until) = next.Idle until
answer_of decision.Spent = next.Spent
answer_of decision.Finished = next.Finished

-- the entries that it adds at the moment: a call begins, or records expire
abbrev pub decision_entries : Decision → ℕ → List Entry
decision_entries (decision.Call job) m = Began job.lane job.places job.closing m ∷ []
decision_entries (decision.Expire lane places line) m = Gave (Some lane) lane.shard places Expired line None m ∷ []
decision_entries (decision.Idle until) m = []
decision_entries decision.Spent m = []
decision_entries decision.Finished m = []

-- the lane that it names, if it names one, has a number below the factor
abbrev pub NamesLane : ℕ → Decision → Type 0
NamesLane factor (decision.Call job) = job.lane.lane < factor
NamesLane factor (decision.Expire lane places line) = lane.lane < factor
NamesLane factor _ = ⊤

-- what came, and what is kept of windows, is within the bounds of a stream
pub record IsWithinBounds (c : Ledger) : Type 0 where
  pub shards : (n : ℕ) → 1 ≤ came_count (past_of c) n → n ≤ MAX_SHARD
  pub records : (n i : ℕ) (r : Record) → record_at (setting_of c) n i ≡ Some r → IsValidRecord r
  pub states : (n w : ℕ) (text : List ℕ) → kept_state (setting_of c) (past_of c) n w ≡ Some text → (w ≤ MAX_MOMENT) × (length text ≤ MAX_DATA)

-- a decision for a lane

-- these records of the lane expire, with this line
pub record IsExpiry (s : Setting) (h : List Entry) (lane : LaneId) (m : ℕ) (at : LaneId) (places : List ℕ) (line : Option (List ℕ)) : Type 0 where
  pub lane_is : at ≡ lane
  pub places_are : places ≡ expiring s h lane m
  pub some : 1 ≤ length places
  pub line_is : line ≡ failure_line s h lane.shard places true m

-- a batch that is called has records, and what expires is what the rules name, with its line
abbrev pub Gives : Setting → List Entry → LaneId → ℕ → Decision → Type 0
Gives s h lane m (decision.Call job) = job.closing ≡ None → 1 ≤ length job.places
Gives s h lane m (decision.Expire at places line) = IsExpiry s h lane m at places line
Gives s h lane m _ = ⊤

-- what is decided is by the first rule that holds
pub record IsDecided (s : Setting) (h : List Entry) (lane : LaneId) (m : ℕ) (d : Decision) : Type 0 where
  pub answer : answer_of d ≡ next_of s h lane m
  pub gives : Gives s h lane m d
