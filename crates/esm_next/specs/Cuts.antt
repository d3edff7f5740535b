-- How many of a lane's items make a batch, and whether it may begin. Source: the Lambda Developer Guide, event source
-- mappings, batching behavior (`BatchSize`, `MaximumBatchingWindowInSeconds`, 6 MB of payload), and the maximum record
-- age of Kinesis.
use Rattle.std.specs.Prelude.{◌≡◌, ℕ, ◌+◌, ◌-◌, ◌<◌, ◌≤◌, ◌==◌, nat_lt, nat_le, Bool, false, ◌||◌, List, [], ◌∷◌, length, take, sum_by, All, Option, Some, None, if◌then◌else◌}
use Rattle.esm_model.specs.Moment.{moment_after}
use Rattle.esm_next.specs.declared.piece.SizedItem.{SizedItem}
use Rattle.esm_next.specs.declared.piece.Limits.{Limits}
use Rattle.esm_next.specs.declared.piece.Why.{Why}
use Rattle.esm_next.specs.declared.piece.Why.TheVariants.{Full, Waited, Shut, Waiting}

-- an age is set, and the item is older; one that arrives after the moment has the age 0
abbrev pub is_expired : Option ℕ → ℕ → SizedItem → Bool
is_expired None now item = false
is_expired (Some age) now item = nat_lt age (now - item.arrival)

-- the bytes of the elements and a comma between each two
abbrev pub payload_bytes : List SizedItem → ℕ
payload_bytes items = sum_by (λ (item : SizedItem). item.bytes) items + (length items - 1)

-- the tumbling window of the first item
abbrev pub first_window : List SizedItem → ℕ
first_window [] = 0
first_window (item ∷ items) = item.window

-- the moment at which the first item came
abbrev pub first_came : List SizedItem → ℕ
first_came [] = 0
first_came (item ∷ items) = item.came

-- the four limits: the batch size, the payload, one tumbling window, none expired at the moment
pub record Fits (limits : Limits) (now : ℕ) (items : List SizedItem) : Type 0 where
  pub count : length items ≤ limits.count
  pub payload : payload_bytes items ≤ limits.payload
  pub window : All (λ (item : SizedItem). item.window ≡ first_window items) items
  pub fresh : All (λ (item : SizedItem). is_expired limits.age_ms now item ≡ false) items

-- the first `count` items meet the limits, and no longer prefix does
pub record IsLongestPrefix (limits : Limits) (now : ℕ) (items : List SizedItem) (count : ℕ) : Type 0 where
  pub within : count ≤ length items
  pub fits : Fits limits now (take count items)
  pub longest : (k : ℕ) → count < k → k ≤ length items → ¬ Fits limits now (take k items)

-- the list has a first item, which is not expired and fits the payload
abbrev pub CanBegin : Limits → ℕ → List SizedItem → Type 0
CanBegin limits now [] = ⊥
CanBegin limits now (item ∷ items) = (item.bytes ≤ limits.payload) × (is_expired limits.age_ms now item ≡ false)

-- the batch has the batch size, or an item follows it
abbrev pub is_full : Limits → List SizedItem → ℕ → Bool
is_full limits items count = (count == limits.count) || nat_lt count (length items)

-- the end of the batching window, which begins when the first item comes
abbrev pub wait_end : Limits → List SizedItem → ℕ
wait_end limits items = moment_after (first_came items) limits.window_ms

-- why the batch of the first `count` items may begin, or how long it waits
abbrev pub why_of : Limits → ℕ → List SizedItem → ℕ → Why
why_of limits now items count =
    if is_full limits items count then Full
    else (if limits.shut then Shut
    else (if nat_le (wait_end limits items) now then Waited
    else Waiting (wait_end limits items)))
