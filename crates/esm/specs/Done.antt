-- How the words of the command ended. This product's own.
use Rattle.std.specs.Prelude.{ℕ, List}
use Rattle.esm_run.specs.Commands.{Outcome}
use Rattle.esm_run.specs.World.{DevicesTell}
use Rattle.esm_run.specs.declared.world.World.{World}

-- over the old world they ended with the status, and left some new world
abbrev pub HasDone : {S K D C F L N : Type 0} → DevicesTell S K D F L N → List (List ℕ) → (old : World S K D C F L) → (status : ℕ) → Type 0
HasDone {S} {K} {D} {C} {F} {L} {N} t words old status = (new : World S K D C F L) × Outcome t words old new status
