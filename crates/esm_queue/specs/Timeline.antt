-- What holds of a timeline as it is kept. This product's own; cited by this crate's proofs alone.
use Rattle.std.specs.Prelude.{◌≡◌, ℕ, ◌==◌, ◌<◌, ◌≤◌, true, IsSome, length, count_by, if◌then◌else◌}
use Rattle.std.specs.Ordering.{nat_cmp}
use Rattle.std.specs.BTreeMap.{get}
use Rattle.std.below.core.specs.declared.int.u32.TheConstants.{MAX}
use Rattle.esm_queue.specs.declared.timeline.Timeline.TheInside.{Inside}
use Rattle.esm_queue.specs.Moments.{is_set}
use Rattle.esm_queue.specs.Counted.{times, HasNoZeroBut}
use Rattle.esm_queue.specs.declared.moment_tree.TheConstants.{NEVER}

-- each moment that is set is counted, and the one that is ready is in the map, be it of no place
pub record IsTimeline (t : Inside) : Type 0 where
  pub few : length t.moments.items ≤ MAX
  pub counted : (v : ℕ) → times t.counts v ≡ (if is_set v then count_by (λ x. x == v) t.moments.items else 0)
  pub some : HasNoZeroBut t.ready t.counts
  pub ready : is_set t.ready ≡ true → IsSome (get nat_cmp t.counts t.ready)
  pub early : t.ready < NEVER
