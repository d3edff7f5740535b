-- The room that a run's callers need while they are recorded. This product's own.
use Rattle.std.specs.Prelude.{◌≡◌, ◌≤◌, [], is_some, vec_capacity, IfSome}
use Rattle.esm_model.specs.declared.limits.TheConstants.{MAX_LANES}
use Rattle.esm_traced.specs.declared.room.Room.{Room}

-- there is room for a recorder over each caller and, if the trace is asked for, for the replies of each
pub record IsRoom {F : Type 0} (room : Room F) : Type 0 where
  pub recorders : (room.recorders.items ≡ []) × (MAX_LANES ≤ vec_capacity room.recorders)
  pub listed : is_some room.lists ≡ room.trace
  pub lists : IfSome room.lists (λ v. (v.items ≡ []) × (MAX_LANES ≤ vec_capacity v))
