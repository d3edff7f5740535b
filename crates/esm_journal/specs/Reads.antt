-- What calls of a disk that write nothing leave, and why a file was refused.
use Rattle.std.specs.Prelude.{◌≡◌, ℕ, ◌≤◌, true, List}
use Rattle.esm_io.specs.Meanings.{DiskMeaning}
use Rattle.esm_io.specs.Images.{Within, LeavesOnly}
use Rattle.esm_io.specs.Faults.{MAX_FAULTS}
use Rattle.esm_journal.specs.declared.error.InitError.{InitError}
use Rattle.esm_journal.specs.declared.error.InitError.TheVariants as init_error
use Rattle.esm_journal.specs.declared.error.OpenError.{OpenError}
use Rattle.esm_journal.specs.declared.error.OpenError.TheVariants.{NotAJournal, Damaged, DiskFault, OutOfMemory}

-- The disk reads as before, and each image now or since the first call is one from before.
pub record IsOnlyRead {D : Type 0} (m : DiskMeaning D) (old new : D) : Type 0 where
  pub honesty : m.honest new ≡ m.honest old
  pub same : m.honest old ≡ true → m.content new ≡ m.content old
  pub images : m.honest old ≡ true → Within (m.image old) (m.image new)
  pub any_moment : m.honest old ≡ true → LeavesOnly m.moment m.since old new (m.image old)
  pub never_falls : m.faults old ≤ m.faults new
  pub greatest : m.faults old ≤ MAX_FAULTS → m.faults new ≤ MAX_FAULTS

-- why a file was refused: it does not begin with the header, and these are its first eight bytes; it is damaged at a
-- place; or the disk's faults rose
abbrev pub RefusedFor : (List ℕ → Type 0) → (ℕ → Type 0) → Type 0 → OpenError → Type 0
RefusedFor foreign damaged rose (NotAJournal first) = foreign first
RefusedFor foreign damaged rose (Damaged place) = damaged place
RefusedFor foreign damaged rose DiskFault = rose
RefusedFor foreign damaged rose OutOfMemory = Unit {0}

-- why a file was not made: the disk has bytes, and this is their number; or its faults rose
abbrev pub NotMadeFor : (ℕ → Type 0) → Type 0 → InitError → Type 0
NotMadeFor not_empty rose (init_error.NotEmpty size) = not_empty size
NotMadeFor not_empty rose init_error.DiskFault = rose
NotMadeFor not_empty rose init_error.OutOfMemory = Unit {0}
