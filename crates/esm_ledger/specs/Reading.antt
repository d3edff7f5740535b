-- What is read of a setting and a history. This product's own.
use Rattle.std.specs.Prelude.{◌≡◌, ℕ, ◌≤◌, ◌/◌, ◌%◌, true, false, nat_lt, [], List, Option, Some, None, option_map, slice_get, if◌then◌else◌, MatchOption}
use Rattle.std.specs.List.{All}
use Rattle.esm_model.specs.declared.lane.LaneId.{LaneId}
use Rattle.esm_model.specs.declared.entry.Entry.{Entry}
use Rattle.esm_model.specs.Setting.{Setting}
use Rattle.esm_model.specs.Entries.{shards_that_came, came_count}
use Rattle.esm_model.specs.Fates.{lacks_fate}
use Rattle.esm_model.specs.Checkpoint.{checkpoint, spread}
use Rattle.esm_model.specs.Windows.{is_due}
use Rattle.esm_model.specs.Owed.{debts, unsorted}

-- the lane that the batcher serves: shards are indexed in the order in which they came. None if its shard has not come
abbrev pub lane_of_batcher : Setting → List Entry → ℕ → Option LaneId
lane_of_batcher s h k = option_map (λ (n : ℕ). record { shard = n; lane = k % s.config.factor }) (slice_get (shards_that_came h) (k / s.config.factor))

-- none of the shard's records at the places has a fate
abbrev pub AreOpen : Setting → List Entry → ℕ → List ℕ → Type 0
AreOpen s h n places = All (λ i. lacks_fate s h n i ≡ true) places

-- the checkpoint of a shard that came
abbrev pub checkpoint_of : Setting → List Entry → ℕ → Option ℕ
checkpoint_of s h n = if nat_lt 0 (came_count h n) then Some (checkpoint s h n) else None

abbrev pub spread_of : Setting → List Entry → ℕ → Option ℕ
spread_of s h n = if nat_lt 0 (came_count h n) then Some (spread s h n) else None

-- the lane owes nothing, and no open record of its shard is refused by the filter
pub record IsLaneSettled (s : Setting) (h : List Entry) (lane : LaneId) : Type 0 where
  pub paid : debts s h lane ≡ []
  pub sorted : unsorted s h lane.shard ≡ []

-- this is the least window of the shard that is due, or none is
abbrev pub IsLeastDueWindow : Setting → List Entry → ℕ → Option ℕ → Type 0
IsLeastDueWindow s h n r = MatchOption r ((w : ℕ) → is_due s h n w ≡ false) (λ v. (is_due s h n v ≡ true) × ((w : ℕ) → is_due s h n w ≡ true → v ≤ w))
