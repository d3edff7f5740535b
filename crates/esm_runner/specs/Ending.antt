-- The end of a run, by how its batchers ended. Only this crate's proofs cite this.
use Rattle.std.specs.Prelude.{◌≡◌, Result, Ok, Err, Option, Some, IsSome}
use Rattle.esm_model.specs.declared.book.Trouble.{Trouble}
use Rattle.esm_model.specs.declared.book.Trouble.TheVariants as trouble
use Rattle.esm_model.specs.declared.memory.OutOfMemory.{OutOfMemory}
use Rattle.esm_input.specs.declared.ending.InputEnd.{InputEnd}
use Rattle.esm_pool.specs.declared.running.RunEnd.{RunEnd}
use Rattle.esm_pool.specs.declared.running.RunEnd.TheVariants as ran
use Rattle.esm_runner.specs.declared.run.MappingEnd.{MappingEnd}
use Rattle.esm_runner.specs.declared.run.MappingEnd.TheVariants as end

-- there is a reason for the end of the batchers
abbrev pub HasReason : Option Trouble → Option InputEnd → RunEnd → Type 0
HasReason why reading ran.Finished = IsSome reading
HasReason why reading ran.Spent = Unit {0}
HasReason why reading ran.Down = IsSome why

-- the end of a run whose batchers ended so, with this trouble of the book and this end of the reading
abbrev pub IsEndOf : RunEnd → Option Trouble → Option InputEnd → MappingEnd → Type 0
IsEndOf r why reading (end.Finished last) = (r ≡ ran.Finished) × (reading ≡ Some last)
IsEndOf r why reading end.CallsSpent = r ≡ ran.Spent
IsEndOf r why reading end.DiskFault = (r ≡ ran.Down) × (why ≡ Some trouble.Disk)
IsEndOf r why reading end.DestFault = (r ≡ ran.Down) × (why ≡ Some trouble.Dest)
IsEndOf r why reading (end.Changed change) = (r ≡ ran.Down) × (why ≡ Some (trouble.Changed change))

abbrev pub EndsBy : Result RunEnd OutOfMemory → Option Trouble → Option InputEnd → MappingEnd → Type 0
EndsBy (Ok r) why reading e = IsEndOf r why reading e
EndsBy (Err none) why reading e = ⊥
