-- What is left of a disk on which a fresh file was to be made.
use Rattle.std.proofs.Common.{◌≡◌, true, length, Result, Ok, Err}
use Rattle.std.specs.Prelude.{IfOk, OnOk}
use Rattle.esm_io.specs.Faults.{IsCount}
use Rattle.esm_io.specs.Images.{LeavesOnly}
use Rattle.esm_io.specs.Meanings.{DiskMeaning}
use Rattle.esm_journal.specs.Fresh.{WasOrHoldsNone}
use Rattle.esm_folder.specs.Init.{IsSafe}

-- a fresh file was made, and there were no bytes before
pub safe_made : {D E : Type 0} (m : DiskMeaning D) (disk : D) (made : Result D E) → IfOk made (λ new. m.honest new ≡ m.honest disk) → IfOk made (λ new. IsCount (m.faults disk) (m.faults new))
    → (m.honest disk ≡ true → OnOk made (length (m.content disk) ≡ 0)) → (m.honest disk ≡ true → IfOk made (λ new. LeavesOnly m.moment m.since disk new (WasOrHoldsNone (m.image disk))))
    → IfOk made (IsSafe m disk)
safe_made m disk (Ok new) honesty count empty moments =
    record { honesty = honesty; never_falls = count.never_falls; any_moment = moments; kept = λ honest has_bytes. absurd (has_bytes (empty honest)) }
safe_made m disk (Err why) honesty count empty moments = tt
