-- What reading leaves of a book and of its input. Only this crate's proofs cite this.
use Rattle.std.specs.Prelude.{◌≡◌, ◌≤◌, ◌++◌, ℕ, Bool, true, List, [], length, Option, Some, None, Result, Ok, Err}
use Rattle.esm_model.specs.declared.book.CameError.{CameError}
use Rattle.esm_model.specs.declared.book.CameError.TheVariants as refusal
use Rattle.esm_model.specs.declared.book.Change.{Change}
use Rattle.esm_model.specs.declared.called.Called.{Called}
use Rattle.esm_model.specs.declared.item.Item.{Item}
use Rattle.esm_model.specs.declared.limits.TheConstants.{MAX_BATCH}
use Rattle.esm_model.specs.Coming.{Come, StayAsTheyAre, AreSomeCome}
use Rattle.esm_input.specs.Reading.{InputState, handed}
use Rattle.esm_serial.specs.declared.reading.Stop.{Stop}
use Rattle.esm_serial.specs.declared.reading.Stop.TheVariants.{Down, OutOfMemory}
use Rattle.esm_serial.specs.declared.serial.Serial.{Ghosts as Serial}
use Rattle.esm_serial.specs.Ran.{IsCut}

-- the calls that took a book to the old one take it to the new one, so no call ended; the new one is of the same mapping,
-- and more items may come to it
pub record Brings {B : Type 0} (m : Serial B) (gave : ℕ → Bool) (old new : B) : Type 0 where
  pub since : (sends : List ℕ → List ℕ) (first : B) (calls : List Called) → m.since gave sends first old calls → m.since gave sends first new calls
  pub going : m.going new
  pub kind : m.kind new ≡ m.kind old
  pub function : m.function new ≡ m.function old

-- the calls that took a book to the old one take it to the new one, so no call ended
abbrev pub EndsReading : {B : Type 0} → Serial B → (gave : ℕ → Bool) → (old new : B) → Type 0
EndsReading {B} m gave old new = (sends : List ℕ → List ℕ) (first : B) (calls : List Called) → m.since gave sends first old calls → m.since gave sends first new calls

-- why reading stops if a list was refused for this reason
abbrev pub stop_of : Result (Unit {0}) CameError → Result (Unit {0}) Stop
stop_of (Ok u) = Ok u
stop_of (Err (refusal.StreamChanged change)) = Err Down
stop_of (Err refusal.DiskFault) = Err Down
stop_of (Err refusal.Down) = Err Down
stop_of (Err refusal.OutOfMemory) = Err OutOfMemory

-- The change is of the first item of a list that differs: all items before that list had arrived after those that were
-- there, which took the old book to the one before the list, and the list was refused whole.
pub record IsNextChange {B : Type 0} (m : Serial B) (gave : ℕ → Bool) (old : B) (were : ℕ → List Item) (items : List Item) (new : B) (change : Change) : Type 0 where
  pub before : B
  pub brings : Brings m gave old before
  pub front : List Item
  pub list : List Item
  pub rest : List Item
  pub few : length list ≤ MAX_BATCH
  pub parts : items ≡ front ++ list ++ rest
  pub came : Come were (m.items before) front
  pub stay : StayAsTheyAre (m.items before) (m.items new)
  pub differs_so : m.differs before list change

-- Why no more of the items are passed on: the book is down, and if it has a change, this is of one of them; or memory ran
-- out, and the book has no change.
abbrev pub IsStopFor : {B : Type 0} → Serial B → (gave : ℕ → Bool) → (old : B) → List Item → (new : B) → Stop → Type 0
IsStopFor m gave old items new Down = (m.down new ≡ true) × ((change : Change) → m.change new ≡ Some change → IsNextChange m gave old (m.items old) items new change)
IsStopFor m gave old items new OutOfMemory = m.change new ≡ None

-- the book is down, a prefix of the items arrived, and if the book has a change, this is of one of them
pub record IsDownAt {B S : Type 0} (m : Serial B) (gave : ℕ → Bool) (old : B) (i : InputState S) (new : B) : Type 0 where
  pub down : m.down new ≡ true
  pub some : AreSomeCome (m.items new) (handed i)
  pub changed : (change : Change) → m.change new ≡ Some change → IsNextChange m gave old (λ _. []) (handed i) new change

-- why reading stopped: the book is down; or memory ran out, and the book has no change
abbrev pub IsStopOf : {B S : Type 0} → Serial B → (gave : ℕ → Bool) → (left : S → Option (List ℕ)) → (old : B) → InputState S → (new : B) → Stop → Type 0
IsStopOf m gave left old i new Down = IsDownAt m gave old i new
IsStopOf m gave left old i new OutOfMemory = (m.change new ≡ None) × IsCut left i (m.items new)
