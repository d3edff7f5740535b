-- The lists that the tests pass on: entry `Came n ..` is the one of seat n. Only this crate's tests cite this.
use Rattle.std.specs.Prelude.{ℕ, []}
use Rattle.esm_model.specs.declared.entry.Entry.{Entry}
use Rattle.esm_model.specs.declared.entry.Entry.TheVariants.{Came}
use Rattle.esm_model.specs.declared.setup.Told.{Told}

abbrev pub told : Entry → Told
told e = record { entry = e; records = []; messages = [] }

-- the seat's entry
abbrev pub entry_of : ℕ → Entry
entry_of seat = Came seat 0 1 0

-- the seat whose entry it is
abbrev pub seat_of : Entry → ℕ
seat_of (Came seat first count moment) = seat
seat_of _ = 0
