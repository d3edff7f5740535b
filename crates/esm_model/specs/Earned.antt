-- How a record earns its fate: by the end of a call, by its age, or by the filter. A history has its newest entry first.
-- Source: the Lambda Developer Guide, event source mappings for Kinesis (filtering, error handling, maximum record age,
-- retry attempts).
use Rattle.std.specs.Prelude.{◌≡◌, ℕ, ◌+◌, ◌-◌, ◌<◌, Bool, false, IsTrue, List, ◌∷◌, ◌++◌, take, drop, Option, Some, None}
use Rattle.std.specs.List.{list_any}
use Rattle.esm_model.specs.Lane.{same_lane}
use Rattle.esm_model.specs.Filter.{passes}
use Rattle.esm_model.specs.Records.{Record}
use Rattle.esm_model.specs.declared.lane.LaneId.{LaneId}
use Rattle.esm_model.specs.declared.verdict.Rest.TheVariants as rest
use Rattle.esm_model.specs.declared.verdict.Verdict.{Verdict}
use Rattle.esm_model.specs.declared.entry.Fate.{Fate}
use Rattle.esm_model.specs.declared.entry.Fate.TheVariants.{Succeeded, Filtered, Expired, Exhausted}
use Rattle.esm_model.specs.declared.entry.Reply.{Reply}
use Rattle.esm_model.specs.declared.entry.WindowState.{WindowState}
use Rattle.esm_model.specs.declared.entry.Entry.{Entry}
use Rattle.esm_model.specs.declared.entry.Entry.TheVariants.{Began, Ended, Gave}
use Rattle.esm_model.specs.Setting.{Setting, record_at}
use Rattle.esm_model.specs.declared.called.Called.{Called}
use Rattle.esm_model.specs.Entries.{Call, holds, last_call, batcher}
use Rattle.esm_model.specs.Calls.{calls, last_event}
use Rattle.esm_model.specs.Tries.{tries_of, verdict_after}

-- the end of a call

-- the entry begins or ends a call of the lane
abbrev pub is_call_of : LaneId → Entry → Bool
is_call_of lane (Began at places closing moment) = same_lane at lane
is_call_of lane (Ended at reply moment) = same_lane at lane
is_call_of lane _ = false

-- the last end of a call of the lane: its reply, what came before it, and the call that ended. No call of the lane has begun
-- or ended since.
pub record LastEnd (s : Setting) (h : List Entry) (lane : LaneId) : Type 0 where
  pub since : List Entry
  pub reply : Reply
  pub moment : ℕ
  pub earlier : List Entry
  pub call : Call
  pub ended : h ≡ since ++ Ended lane reply moment ∷ earlier
  pub call_is : last_call earlier lane ≡ Some call
  pub quiet : list_any (is_call_of lane) since ≡ false

-- the ruling of that end
abbrev pub verdict_at : {s : Setting} {h : List Entry} {lane : LaneId} → LastEnd s h lane → Verdict
verdict_at {s = s} {lane = lane} end = verdict_after s end.earlier lane end.reply

-- the tries of that call before its end
abbrev pub tries_at : {s : Setting} {h : List Entry} {lane : LaneId} → LastEnd s h lane → ℕ
tries_at {s = s} {lane = lane} end = tries_of s end.earlier lane.shard end.call

-- that call is among those of the lane's batcher, as its caller logs it
abbrev pub IsLogged : (List ℕ → List ℕ) → {s : Setting} {h : List Entry} {lane : LaneId} → LastEnd s h lane → Type 0
IsLogged sends {s = s} {h = h} {lane = lane} end =
    (earlier later : List Called)
    × (calls s sends h (batcher s end.earlier lane) ≡ earlier ++ record { name = s.config.function; event = sends (last_event s end.earlier lane); reply = end.reply } ∷ later)

-- records succeed: by the last end of their lane, whose ruling counts exactly these as succeeded
pub record HaveSucceeded (s : Setting) (h : List Entry) (lane : LaneId) (n : ℕ) (places : List ℕ) : Type 0 where
  pub end : LastEnd s h lane
  pub shard : n ≡ lane.shard
  pub exact : places ≡ take (verdict_at end).succeeded end.call.places

-- records are exhausted: by the last end of their lane, whose ruling gives up exactly these, which are all that did not
-- succeed; with this end they have failed more often than the retry attempts allow
pub record AreExhausted (s : Setting) (h : List Entry) (lane : LaneId) (n : ℕ) (places : List ℕ) : Type 0 where
  pub end : LastEnd s h lane
  pub shard : n ≡ lane.shard
  pub exact : places ≡ drop (verdict_at end).succeeded end.call.places
  pub given_up : (verdict_at end).rest ≡ rest.Exhausted
  pub retries : ℕ
  pub finite : s.config.retries ≡ Some retries
  pub too_often : retries < tries_at end + 1

-- the age and the filter

-- an age is set, and at the moment the record at the place is older
pub record IsTooOld (s : Setting) (n m i : ℕ) : Type 0 where
  pub item : Record
  pub stands : record_at s n i ≡ Some item
  pub age : ℕ
  pub age_is : s.config.age_ms ≡ Some age
  pub older : age < m - item.arrival

-- the record at the place does not pass the filter
pub record IsFilteredOut (s : Setting) (n i : ℕ) : Type 0 where
  pub item : Record
  pub stands : record_at s n i ≡ Some item
  pub fails : passes s.config.filters item ≡ false

-- each of the places, of the lane's shard, is that of a record that is too old
pub record HaveExpired (s : Setting) (lane : LaneId) (n : ℕ) (places : List ℕ) (m : ℕ) : Type 0 where
  pub shard : n ≡ lane.shard
  pub old : (i : ℕ) → IsTrue (holds places i) → IsTooOld s n m i

-- the fate

-- the places have earned this fate, which they get at the moment after the history
abbrev pub IsEarned : Setting → List Entry → Option LaneId → ℕ → List ℕ → Fate → ℕ → Type 0
IsEarned s h (Some lane) n places Succeeded m = HaveSucceeded s h lane n places
IsEarned s h (Some lane) n places Exhausted m = AreExhausted s h lane n places
IsEarned s h (Some lane) n places Expired m = HaveExpired s lane n places m
IsEarned s h None n places Filtered m = (i : ℕ) → IsTrue (holds places i) → IsFilteredOut s n i
IsEarned s h _ n places _ m = ⊥

-- each fate of the history was earned
abbrev pub FateIsEarned : Setting → List Entry → Type 0
FateIsEarned s h =
    (later before : List Entry) (by : Option LaneId) (n : ℕ) (places : List ℕ) (f : Fate) (line : Option (List ℕ)) (state : Option WindowState) (m : ℕ) → h ≡ later ++ Gave by n places f line state m ∷ before
    → IsEarned s before by n places f m
