-- The invariant of a queue with a limit. Only this crate's proofs cite this.
use Rattle.std.specs.Prelude.{◌≡◌, ℕ, ◌<◌, ◌≤◌, ◌&&◌, nat_le, Bool, true, false, List, length, slice_get, slice_index, Some, None, if◌then◌else◌}
use Rattle.std.below.core.specs.declared.int.u32.TheConstants.{MAX}
use Rattle.esm_model.specs.Entries.{holds}
use Rattle.esm_queue_model.specs.declared.stored.Stored.{Stored}
use Rattle.esm_queue_model.specs.Queue.{QueueState, same_group}
use Rattle.esm_queue.specs.declared.moment_tree.TheConstants.{NEVER}
use Rattle.esm_queue.specs.Moments.{leaf}
use Rattle.esm_redrive.specs.Limited.{is_spent}
use Rattle.esm_redrive.specs.declared.limited.TheConstants.{MAX_RECEIVES}
use Rattle.esm_redrive.specs.declared.limited.LimitedQueue.TheInside.{Inside}

-- the moment at which a message becomes visible that was received `max` times; `NEVER` for all others, and where it is
-- deleted
abbrev pub spent_leaf : ℕ → ℕ → Stored → ℕ
spent_leaf max visibility x = if nat_le max x.count then leaf visibility x else NEVER

-- a message was received at most `max` times, and one that never was has no last receipt
pub record IsWithin (max : ℕ) (x : Stored) : Type 0 where
  pub most : x.count ≤ max
  pub never : x.count ≡ 0 → x.last ≡ None

-- the earlier message was received each time that the later one was
pub record IsAhead (x y : Stored) : Type 0 where
  pub as_often : y.count ≤ x.count
  pub at_once : y.count ≡ x.count → x.last ≡ y.last

-- this holds in each group, for messages that are not deleted
abbrev pub AreInOrder : List Stored → Type 0
AreInOrder xs = (i j : ℕ) (x y : Stored) → i < j → slice_get xs i ≡ Some x → slice_get xs j ≡ Some y → same_group x y ≡ true → x.deleted ≡ false → y.deleted ≡ false → IsAhead x y

-- of the messages at these places, those that were received `max` times now show at this moment; all others show as
-- before
abbrev pub AreMarked : ℕ → QueueState → List ℕ → ℕ → List ℕ → List ℕ → Type 0
AreMarked max q places show before after = (i : ℕ) → i < length before → slice_index after i ≡ (if holds places i && is_spent max q i then show else slice_index before i)

pub record IsLimited (max visibility : ℕ) (fifo : Bool) (xs : List Stored) (moments : List ℕ) : Type 0 where
  pub sized : length moments ≡ length xs
  pub spent : (i : ℕ) (x : Stored) → slice_get xs i ≡ Some x → slice_index moments i ≡ spent_leaf max visibility x
  pub within : (i : ℕ) (x : Stored) → slice_get xs i ≡ Some x → IsWithin max x
  pub order : fifo ≡ true → AreInOrder xs

pub record IsKept (q : Inside) : Type 0 where
  pub few : length q.queue.state.messages ≤ MAX
  pub some : 1 ≤ q.max_receives
  pub low : q.max_receives ≤ MAX_RECEIVES
  pub visibility : q.visibility_ms ≡ q.queue.state.visibility
  pub limited : IsLimited q.max_receives q.queue.state.visibility q.queue.state.fifo q.queue.state.messages q.spent.moments
