-- How the end of a run is reported, from how its caller's loop ended. Only this crate's proofs cite this.
use Rattle.std.specs.Prelude.{◌≡◌, Result, Ok, Err, Option, Some, None, IsSome}
use Rattle.esm_model.specs.declared.book.Trouble.{Trouble}
use Rattle.esm_model.specs.declared.book.Trouble.TheVariants as trouble
use Rattle.esm_model.specs.declared.memory.OutOfMemory.{OutOfMemory}
use Rattle.esm_input.specs.declared.ending.InputEnd.{InputEnd}
use Rattle.esm_serial.specs.declared.running.RunEnd.{RunEnd}
use Rattle.esm_serial.specs.declared.running.RunEnd.TheVariants as ran
use Rattle.esm_replay_run.specs.declared.run.ReplayEnd.{ReplayEnd}
use Rattle.esm_replay_run.specs.declared.run.ReplayEnd.TheVariants as end

-- no destination failed: a replay has none
abbrev pub IsReason : Option Trouble → Type 0
IsReason None = ⊥
IsReason (Some trouble.Disk) = Unit {0}
IsReason (Some trouble.Dest) = ⊥
IsReason (Some (trouble.Changed change)) = Unit {0}

-- the loop ended for this reason, which has a cause
abbrev pub HasReason : Option Trouble → Option InputEnd → RunEnd → Type 0
HasReason why reading ran.Finished = IsSome reading
HasReason why reading ran.Spent = Unit {0}
HasReason why reading ran.Down = IsReason why

-- the end of a run in which the loop ended with `r`, the book has this trouble, and the reading ended so
abbrev pub IsEndOf : RunEnd → Option Trouble → Option InputEnd → ReplayEnd → Type 0
IsEndOf r why reading (end.Finished last) = (r ≡ ran.Finished) × (reading ≡ Some last)
IsEndOf r why reading end.CallsSpent = r ≡ ran.Spent
IsEndOf r why reading end.DiskFault = (r ≡ ran.Down) × (why ≡ Some trouble.Disk)
IsEndOf r why reading (end.Changed change) = (r ≡ ran.Down) × (why ≡ Some (trouble.Changed change))
IsEndOf r why reading (end.BadLine index) = ⊥

abbrev pub EndsBy : Result RunEnd OutOfMemory → Option Trouble → Option InputEnd → ReplayEnd → Type 0
EndsBy (Ok r) why reading e = IsEndOf r why reading e
EndsBy (Err none) why reading e = ⊥
