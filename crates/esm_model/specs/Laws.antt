-- The laws that hold of every legal history, which has its newest entry first.
use Rattle.std.specs.Prelude.{◌≡◌, ℕ, ◌+◌, ◌<◌, ◌≤◌, Bool, true, false, IsTrue, IsSome, List, [], ◌∷◌, ◌++◌, length, take, Option, Some, None, ◌⊎◌}
use Rattle.std.specs.List.{list_any}
use Rattle.esm_model.specs.Records.{Record}
use Rattle.esm_model.specs.declared.lane.LaneId.{LaneId}
use Rattle.esm_model.specs.declared.entry.Fate.{Fate}
use Rattle.esm_model.specs.declared.entry.Fate.TheVariants.{Succeeded, Filtered, Expired, Exhausted}
use Rattle.esm_model.specs.declared.entry.WindowState.{WindowState}
use Rattle.esm_model.specs.declared.entry.Entry.{Entry}
use Rattle.esm_model.specs.declared.entry.Entry.TheVariants.{Began, Gave}
use Rattle.esm_model.specs.Setting.{Setting, Stream, over, record_at, found_fate}
use Rattle.esm_model.specs.Entries.{holds, came_count, has_come}
use Rattle.esm_model.specs.Fates.{fate, names_place, fate_count, open_count}
use Rattle.esm_model.specs.Checkpoint.{checkpoint}
use Rattle.esm_model.specs.Calls.{calls, calls_since, has_end_of}
use Rattle.esm_model.specs.Batches.{group, batch, fits}

-- when a batch begins, every earlier record of one of its keys has its fate or is in the batch too
abbrev pub OrderPerKey : Setting → List Entry → Type 0
OrderPerKey s h =
    (later before : List Entry) (lane : LaneId) (places : List ℕ) (closing : Option ℕ) (m : ℕ) → h ≡ later ++ Began lane places closing m ∷ before
    → (i j : ℕ) (r q : Record) → record_at s lane.shard i ≡ Some r → record_at s lane.shard j ≡ Some q → q.key ≡ r.key
    → IsTrue (holds places i) → j < i
    → IsTrue (holds places j) ⊎ IsSome (fate s before lane.shard j)

-- each place that is given a fate had none before
abbrev pub OneFate : Setting → List Entry → Type 0
OneFate s h =
    (later before : List Entry) (by : Option LaneId) (n : ℕ) (places : List ℕ) (f : Fate) (line : Option (List ℕ)) (state : Option WindowState) (m : ℕ) → h ≡ later ++ Gave by n places f line state m ∷ before
    → (i : ℕ) → IsTrue (holds places i) → fate s before n i ≡ None

-- no batch has a record with a found fate, or one that an earlier `Gave` names
abbrev pub NoRepeat : Setting → List Entry → Type 0
NoRepeat s h =
    (later before : List Entry) (lane : LaneId) (places : List ℕ) (closing : Option ℕ) (m : ℕ) → h ≡ later ++ Began lane places closing m ∷ before
    → (i : ℕ) → IsTrue (holds places i)
    → (found_fate s lane.shard i ≡ None) × (list_any (names_place lane.shard i) before ≡ false)

-- the shard's arrived records are its succeeded, filtered, expired, exhausted and open ones together
abbrev pub EveryRecordCounted : Setting → List Entry → Type 0
EveryRecordCounted s h =
    (n : ℕ) → came_count h n ≡ fate_count s h n Succeeded + fate_count s h n Filtered + fate_count s h n Expired + fate_count s h n Exhausted + open_count s h n

-- the checkpoint never falls
abbrev pub CheckpointKept : Setting → List Entry → List Entry → Type 0
CheckpointKept s later before = (n : ℕ) → checkpoint s before n ≤ checkpoint s (later ++ before) n

-- a record of the shard arrived if and only if its place is below the number of those that did
pub record HasComeBelow (h : List Entry) (n i : ℕ) : Type 0 where
  pub below : IsTrue (has_come h n i) → i < came_count h n
  pub covered : i < came_count h n → IsTrue (has_come h n i)

-- each record before the checkpoint has a fate, and no greater number of first records, among those that arrived, all have
-- one
pub record CheckpointIsLongest (s : Setting) (h : List Entry) (n : ℕ) : Type 0 where
  pub within : checkpoint s h n ≤ came_count h n
  pub fated : (i : ℕ) → i < checkpoint s h n → IsSome (fate s h n i)
  pub longest : (k : ℕ) → k ≤ came_count h n → ((i : ℕ) → i < k → IsSome (fate s h n i)) → k ≤ checkpoint s h n

-- the prefix passes the test or is empty, and no longer prefix passes it
pub record IsLongestPrefix (meets : List ℕ → Bool) (xs prefix : List ℕ) : Type 0 where
  pub within : length prefix ≤ length xs
  pub front : prefix ≡ take (length prefix) xs
  pub met : (prefix ≡ []) ⊎ (meets prefix ≡ true)
  pub longest : (k : ℕ) → length prefix < k → k ≤ length xs → meets (take k xs) ≡ false

-- the batch is the longest prefix of the group that meets the four limits
abbrev pub BatchIsLongest : Setting → List Entry → LaneId → ℕ → Type 0
BatchIsLongest s h lane m = IsLongestPrefix (fits s h lane.shard m) (group s h lane) (batch s h lane m)

-- entries after a history add to the calls of a batcher exactly those that end in them, and leave them where none does
pub record CallsKept (s : Setting) (sends : List ℕ → List ℕ) (later before : List Entry) (k : ℕ) : Type 0 where
  pub kept : calls s sends (later ++ before) k ≡ calls s sends before k ++ calls_since s sends later before k
  pub same : has_end_of s later before k ≡ false → calls s sends (later ++ before) k ≡ calls s sends before k

-- lists of records that extend the setting's own leave the calls of a batcher as they are
abbrev pub CallsKeptOver : Setting → (List ℕ → List ℕ) → List Entry → ℕ → List Stream → Type 0
CallsKeptOver s sends h k after = calls (over s after) sends h k ≡ calls s sends h k

-- and so the calls that end in the entries after a history
abbrev pub CallsSinceKeptOver : Setting → (List ℕ → List ℕ) → (later before : List Entry) → ℕ → List Stream → Type 0
CallsSinceKeptOver s sends later before k after = calls_since (over s after) sends later before k ≡ calls_since s sends later before k
