-- Which entry may follow a history: a row of conditions for each kind of entry. This product's own, after the Lambda
-- Developer Guide, event source mappings for Kinesis.
use Rattle.std.specs.Prelude.{◌≡◌, ℕ, ◌+◌, ◌<◌, ◌≤◌, Bool, true, false, IsTrue, List, [], ◌∷◌, length, take, Option, Some, None, take_while, ⊤}
use Rattle.std.specs.List.{list_any}
use Rattle.esm_model.specs.declared.limits.TheConstants.{MAX_EXPIRED}
use Rattle.esm_model.specs.declared.moment.TheConstants.{MAX_MOMENT}
use Rattle.esm_model.specs.Records.{Record}
use Rattle.esm_model.specs.declared.lane.LaneId.{LaneId}
use Rattle.esm_model.specs.declared.entry.Fate.{Fate}
use Rattle.esm_model.specs.declared.entry.Fate.TheVariants.{Succeeded, Filtered, Expired, Exhausted}
use Rattle.esm_model.specs.declared.entry.WindowState.{WindowState}
use Rattle.esm_model.specs.declared.entry.Entry.{Entry}
use Rattle.esm_model.specs.declared.entry.Entry.TheVariants.{Came, Began, Ended, Gave, Tried, Closed, Replayed, Shut}
use Rattle.esm_model.specs.Setting.{Setting, records_of, record_at, found_fate, found_try}
use Rattle.esm_model.specs.declared.setup.FoundFate.{FoundFate}
use Rattle.esm_model.specs.declared.setup.FoundTries.{FoundTries}
use Rattle.esm_model.specs.Entries.{moment_of, last_moment, came_count, is_shut, calls_begun, is_running}
use Rattle.esm_model.specs.Fates.{open_places}
use Rattle.esm_model.specs.Batches.{group, batch, is_expired, is_ready, delay_end}
use Rattle.esm_model.specs.Windows.{is_due}
use Rattle.esm_model.specs.FailureLine.{failure_line}
use Rattle.esm_model.specs.Owed.{unsorted, IsOwed, Settled}

-- the moment is not before that of the last entry, and is at most `MAX_MOMENT`
pub record IsLater (h : List Entry) (m : ℕ) : Type 0 where
  pub not_back : last_moment h ≤ m
  pub within : m ≤ MAX_MOMENT

-- each covered record for which the journal kept a fate or tries has the sequence number that it kept
pub record IsKept (s : Setting) (n first count : ℕ) : Type 0 where
  pub fates : (i : ℕ) (f : FoundFate) (r : Record) → first ≤ i → i < first + count → record_at s n i ≡ Some r → found_fate s n i ≡ Some f → r.seq ≡ f.text
  pub tries : (i : ℕ) (f : FoundTries) (r : Record) → first ≤ i → i < first + count → record_at s n i ≡ Some r → found_try s n i ≡ Some f → r.seq ≡ f.text

-- records may arrive: the next ones of the shard's list
pub record MayCome (s : Setting) (h : List Entry) (n first count : ℕ) : Type 0 where
  pub not_shut : is_shut h ≡ false
  pub next : first ≡ came_count h n
  pub some : 1 ≤ count
  pub within : first + count ≤ length (records_of s n)
  pub kept : IsKept s n first count

-- records may be filtered: all open ones of the shard that do not pass the filter
pub record MayFilter (s : Setting) (h : List Entry) (n : ℕ) (places : List ℕ) (line : Option (List ℕ)) (state : Option WindowState) (m : ℕ) : Type 0 where
  pub exact : places ≡ unsorted s h n
  pub some : 1 ≤ length places
  pub no_line : line ≡ None
  pub no_state : state ≡ None
  pub same_moment : m ≡ last_moment h

-- the lane's first open record, if there is one, is expired
abbrev pub is_front_expired : Setting → List Entry → LaneId → ℕ → Bool
is_front_expired s h lane m = list_any (is_expired s lane.shard m) (take 1 (open_places s h lane))

-- what every call of a lane requires
pub record MayCall (s : Setting) (h : List Entry) (lane : LaneId) (m : ℕ) : Type 0 where
  pub settled : Settled s h
  pub came : 1 ≤ came_count h lane.shard
  pub below_factor : lane.lane < s.config.factor
  pub rests : is_running h lane ≡ false
  pub calls_left : calls_begun h < s.calls
  pub front : is_front_expired s h lane m ≡ false

-- a call of a batch may begin
pub record MayBegin (s : Setting) (h : List Entry) (lane : LaneId) (places : List ℕ) (m : ℕ) : Type 0 where
  pub call : MayCall s h lane m
  pub no_window_due : (w : ℕ) → is_due s h lane.shard w ≡ false
  pub ready : is_ready s h lane m ≡ true
  pub exact : places ≡ batch s h lane m
  pub some : 1 ≤ length places

-- a final call may begin, without records: that of the least window that is due
pub record MayBeginFinal (s : Setting) (h : List Entry) (lane : LaneId) (places : List ℕ) (window m : ℕ) : Type 0 where
  pub call : MayCall s h lane m
  pub delay_over : delay_end s h lane ≤ m
  pub due : is_due s h lane.shard window ≡ true
  pub least : (w : ℕ) → is_due s h lane.shard w ≡ true → window ≤ w
  pub no_places : places ≡ []

-- records may expire: the longest expired prefix of the lane's group, at most `MAX_EXPIRED` of it at once
pub record MayExpire (s : Setting) (h : List Entry) (lane : LaneId) (n : ℕ) (places : List ℕ) (line : Option (List ℕ)) (state : Option WindowState) (m : ℕ) : Type 0 where
  pub settled : Settled s h
  pub rests : is_running h lane ≡ false
  pub shard : n ≡ lane.shard
  pub exact : places ≡ take MAX_EXPIRED (take_while (is_expired s lane.shard m) (group s h lane))
  pub some : 1 ≤ length places
  pub line_is : line ≡ failure_line s h lane.shard places true m
  pub no_state : state ≡ None

-- records succeed or are exhausted where their lane owes that; they are filtered at their arrival, or expire
abbrev pub MayGive : Setting → List Entry → Option LaneId → ℕ → List ℕ → Fate → Option (List ℕ) → Option WindowState → ℕ → Type 0
MayGive s h None n places Filtered line state m = MayFilter s h n places line state m
MayGive s h (Some lane) n places Succeeded line state m = IsOwed s h lane (Gave (Some lane) n places Succeeded line state m)
MayGive s h (Some lane) n places Exhausted line state m = IsOwed s h lane (Gave (Some lane) n places Exhausted line state m)
MayGive s h (Some lane) n places Expired line state m = MayExpire s h lane n places line state m
MayGive s h _ n places _ line state m = ⊥

-- the conditions of each entry; a stream's run adds no `Replayed`, which only a replay does
abbrev pub MayFollow : Setting → List Entry → Entry → Type 0
MayFollow s h (Came shard first count moment) = MayCome s h shard first count
MayFollow s h (Began lane places None moment) = MayBegin s h lane places moment
MayFollow s h (Began lane places (Some window) moment) = MayBeginFinal s h lane places window moment
MayFollow s h (Ended lane reply moment) = IsTrue (is_running h lane)
MayFollow s h (Gave by shard places fate line state moment) = MayGive s h by shard places fate line state moment
MayFollow s h (Tried lane places closing tries moment) = IsOwed s h lane (Tried lane places closing tries moment)
MayFollow s h (Closed lane window moment) = IsOwed s h lane (Closed lane window moment)
MayFollow s h (Replayed shard places moment) = ⊥
MayFollow s h (Shut moment) = Settled s h × (is_shut h ≡ false)

-- a history is legal if it is empty, or if it is a legal one and an entry that may follow it
abbrev pub Legal : Setting → List Entry → Type 0
Legal s [] = ⊤
Legal s (e ∷ h) = Legal s h × (IsLater h (moment_of e) × MayFollow s h e)
