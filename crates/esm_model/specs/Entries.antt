-- What the entries of a history say, one by one. A history has its newest entry first, so each definition is a recursion
-- that says what one more entry changes. This product's own.
use Rattle.std.specs.Prelude.{◌≡◌, ℕ, suc, ◌+◌, ◌*◌, ◌==◌, nat_le, nat_lt, Bool, true, false, ◌&&◌, List, [], ◌∷◌, ◌++◌, Option, Some, None, if◌then◌else◌}
use Rattle.std.specs.List.{list_any, position_or_len}
use Rattle.esm_model.specs.Lane.{same_lane}
use Rattle.esm_model.specs.Setting.{Setting}
use Rattle.esm_model.specs.declared.lane.LaneId.{LaneId}
use Rattle.esm_model.specs.declared.entry.Entry.{Entry}
use Rattle.esm_model.specs.declared.entry.Entry.TheVariants.{Came, Began, Ended, Gave, Tried, Closed, Replayed, Shut}

-- the place is one of the places
abbrev pub holds : List ℕ → ℕ → Bool
holds places i = list_any (λ p. p == i) places

-- the moment of an entry, in milliseconds
abbrev pub moment_of : Entry → ℕ
moment_of (Came shard first count moment) = moment
moment_of (Began lane places closing moment) = moment
moment_of (Ended lane reply moment) = moment
moment_of (Gave by shard places fate line state moment) = moment
moment_of (Tried lane places closing tries moment) = moment
moment_of (Closed lane window moment) = moment
moment_of (Replayed shard places moment) = moment
moment_of (Shut moment) = moment

-- the moment of the newest entry, or 0
abbrev pub last_moment : List Entry → ℕ
last_moment [] = 0
last_moment (e ∷ h) = moment_of e

-- arrival and the input's end

abbrev pub came_after : ℕ → ℕ → Entry → ℕ
came_after n before (Came shard first count moment) = if shard == n then count + before else before
came_after n before _ = before

-- how many records of the shard arrived; in a legal history they are those at the places below this number
abbrev pub came_count : List Entry → ℕ → ℕ
came_count [] n = 0
came_count (e ∷ h) n = came_after n (came_count h n) e

-- the entry is a `Came` that covers the place
abbrev pub covers : ℕ → ℕ → Entry → Bool
covers n i (Came shard first count moment) = (shard == n) && (nat_le first i && nat_lt i (first + count))
covers n i _ = false

-- the record at the place arrived: a `Came` covers it
abbrev pub has_come : List Entry → ℕ → ℕ → Bool
has_come h n i = list_any (covers n i) h

abbrev pub came_moment_after : ℕ → ℕ → ℕ → Entry → ℕ
came_moment_after n i before (Came shard first count moment) = if covers n i (Came shard first count moment) then moment else before
came_moment_after n i before _ = before

-- the moment of the `Came` that covers the place
abbrev pub came_moment : List Entry → ℕ → ℕ → ℕ
came_moment [] n i = 0
came_moment (e ∷ h) n i = came_moment_after n i (came_moment h n i) e

-- the entry ends the input
abbrev pub is_shut_entry : Entry → Bool
is_shut_entry (Shut moment) = true
is_shut_entry _ = false

-- the input ended: the history has a `Shut`
abbrev pub is_shut : List Entry → Bool
is_shut h = list_any is_shut_entry h

-- the entry begins a call
abbrev pub is_beginning : Entry → Bool
is_beginning (Began lane places closing moment) = true
is_beginning _ = false

-- each call began after the input had ended
abbrev pub CallsFollowShut : List Entry → Type 0
CallsFollowShut [] = Unit {0}
CallsFollowShut (e ∷ h) = (is_beginning e ≡ true → is_shut h ≡ true) × CallsFollowShut h

abbrev pub shards_after : List ℕ → Entry → List ℕ
shards_after before (Came shard first count moment) = if holds before shard then before else before ++ shard ∷ []
shards_after before _ = before

-- the shards of which records arrived, in the order of their first `Came`
abbrev pub shards_that_came : List Entry → List ℕ
shards_that_came [] = []
shards_that_came (e ∷ h) = shards_after (shards_that_came h) e

-- the number of the batcher that serves the lane: the index of its shard among those that arrived, times the factor, plus
-- the lane's number
abbrev pub batcher : Setting → List Entry → LaneId → ℕ
batcher s h lane = position_or_len (λ n. n == lane.shard) (shards_that_came h) * s.config.factor + lane.lane

-- calls

abbrev pub begun_after : ℕ → Entry → ℕ
begun_after before (Began lane places closing moment) = suc before
begun_after before _ = before

-- the number of calls that began, final calls among them
abbrev pub calls_begun : List Entry → ℕ
calls_begun [] = 0
calls_begun (e ∷ h) = begun_after (calls_begun h) e

-- a call of the function: its batch, the window that it closes, and its moment
pub record Call : Type 0 where
  pub places : List ℕ
  pub closing : Option ℕ
  pub moment : ℕ

abbrev pub call_after : LaneId → Option Call → Entry → Option Call
call_after lane before (Began at places closing moment) = if same_lane at lane then Some (record { places = places; closing = closing; moment = moment }) else before
call_after lane before _ = before

-- the lane's last call that began; the batch of an `Ended` is that of the last call of its lane before it
abbrev pub last_call : List Entry → LaneId → Option Call
last_call [] lane = None
last_call (e ∷ h) lane = call_after lane (last_call h lane) e

-- the places of a call
abbrev pub batch_of : Option Call → List ℕ
batch_of None = []
batch_of (Some call) = call.places

abbrev pub running_after : LaneId → Bool → Entry → Bool
running_after lane before (Began at places closing moment) = if same_lane at lane then true else before
running_after lane before (Ended at reply moment) = if same_lane at lane then false else before
running_after lane before _ = before

-- the last of the lane's `Began` and `Ended` entries is a `Began`
abbrev pub is_running : List Entry → LaneId → Bool
is_running [] lane = false
is_running (e ∷ h) lane = running_after lane (is_running h lane) e
