-- What holds of a queue as it is kept. This product's own; cited by this crate's proofs alone.
use Rattle.std.specs.Prelude.{◌≡◌, ◌≤◌}
use Rattle.std.specs.Vec.{vec_len}
use Rattle.std.below.core.specs.declared.int.u32.TheConstants.{MAX}
use Rattle.esm_queue.specs.declared.queue.Queue.TheInside.{Inside}
use Rattle.esm_queue.specs.Moments.{leaves}
use Rattle.esm_queue.specs.Groups.{IsGrouped, IsHeadedBy}

-- places fit 32 bits, the timeline has the moment of each message, and the groups are those of the messages
pub record IsKept (q : Inside) : Type 0 where
  pub few : vec_len q.messages ≤ MAX
  pub shown : q.shows.moments ≡ leaves q.visibility_ms q.messages.items
  pub grouped : IsGrouped q.messages.items q.groups
  pub headed : IsHeadedBy (leaves q.visibility_ms q.messages.items) q.groups
