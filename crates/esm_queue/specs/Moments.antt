-- Moments by place. This product's own.
use Rattle.std.specs.Prelude.{◌≡◌, ℕ, ◌<◌, ◌≤◌, ◌==◌, nat_lt, not, ◌&&◌, Bool, false, IsTrue, List, length, map, slice_index, slice_get, Some, if◌then◌else◌}
use Rattle.esm_model.specs.Entries.{holds}
use Rattle.esm_queue_model.specs.declared.stored.Stored.{Stored}
use Rattle.esm_queue_model.specs.Queue.{show_after}
use Rattle.esm_queue.specs.declared.moment_tree.TheConstants.{NEVER}

-- the moments, and for how many more there is room
pub record Moments : Type 0 where
  pub moments : List ℕ
  pub spare : ℕ

-- the moments, for how many more there is room, and the moment that a place may be set to without memory
pub record Timed : Type 0 where
  pub moments : List ℕ
  pub spare : ℕ
  pub ready : ℕ

-- the first place from `from` on with a moment that is not after `at`
pub record IsFirstAt (moments : List ℕ) (from at place : ℕ) : Type 0 where
  pub not_before : from ≤ place
  pub within : place < length moments
  pub reached : slice_index moments place ≤ at
  pub first : (i : ℕ) → from ≤ i → i < place → at < slice_index moments i

-- there is none
abbrev pub NoneAt : List ℕ → ℕ → ℕ → Type 0
NoneAt moments from at = (i : ℕ) → from ≤ i → i < length moments → at < slice_index moments i

-- it is neither 0 nor `NEVER`
abbrev pub is_set : ℕ → Bool
is_set v = not (v == 0) && nat_lt v NEVER

-- one after `at`
abbrev pub is_after : ℕ → ℕ → Bool
is_after at v = nat_lt at v && nat_lt v NEVER

-- the moment of each message: that at which it shows, 0 if it was never received, and `NEVER` if it is deleted
abbrev pub leaf : ℕ → Stored → ℕ
leaf visibility x = if x.deleted then NEVER else show_after visibility x.last

abbrev pub leaves : ℕ → List Stored → List ℕ
leaves visibility messages = map (leaf visibility) messages

-- the messages at the places are not deleted
abbrev pub AreAlive : List Stored → List ℕ → Type 0
AreAlive messages places = (i : ℕ) (x : Stored) → IsTrue (holds places i) → slice_get messages i ≡ Some x → x.deleted ≡ false
