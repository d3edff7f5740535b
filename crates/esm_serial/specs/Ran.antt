-- What a run leaves of a book that is read first and then called for. This product's own.
use Rattle.std.specs.Prelude.{◌≡◌, ◌⊎◌, ◌≤◌, ◌++◌, ◌∷◌, [], ℕ, Bool, true, false, List, length, Option, IsSome}
use Rattle.esm_io.specs.Told.{Grows, TakesFront, IsAtEnd}
use Rattle.esm_model.specs.declared.book.Change.{Change}
use Rattle.esm_model.specs.declared.book.Job.{Job}
use Rattle.esm_model.specs.declared.called.Called.{Called}
use Rattle.esm_model.specs.declared.entry.Reply.{Reply}
use Rattle.esm_model.specs.declared.item.Item.{Item}
use Rattle.esm_model.specs.declared.limits.TheConstants.{MAX_BATCH}
use Rattle.esm_model.specs.Coming.{AreCome, AreSomeCome}
use Rattle.esm_input.specs.Positions.{from_start}
use Rattle.esm_input.specs.Reading.{InputState, IsInput, items_read, handed}
use Rattle.esm_serial.specs.declared.running.RunEnd.{RunEnd}
use Rattle.esm_serial.specs.declared.running.RunEnd.TheVariants.{Finished, Spent, Down}
use Rattle.esm_serial.specs.declared.serial.Serial.{Ghosts as Serial}
use Rattle.esm_serial.specs.Adding.{call_to}

-- the parameters with which the input was made stay
pub record IsSameInput {S : Type 0} (before after : InputState S) : Type 0 where
  pub kind : after.kind ≡ before.kind
  pub factor : after.factor ≡ before.factor
  pub start : after.start ≡ before.start
  pub found : after.found ≡ before.found

-- these calls took the book from `first` to `now`, and the log grew by them
pub record HasCalled {B : Type 0} (m : Serial B) (gave : ℕ → Bool) (sends : List ℕ → List ℕ) (first now : B) (start log : Option (List Called)) : Type 0 where
  pub calls : List Called
  pub since : m.since gave sends first now calls
  pub logged : Grows start log calls

-- And one more call runs, whose end was not noted because memory ran out: the log grew by it too.
pub record HasOneMore {B : Type 0} (m : Serial B) (gave : ℕ → Bool) (sends : List ℕ → List ℕ) (first now : B) (start log : Option (List Called)) : Type 0 where
  pub calls : List Called
  pub since : m.since gave sends first now calls
  pub job : Job
  pub running : m.runs now job
  pub reply : Reply
  pub logged : Grows start log (calls ++ call_to (m.function now) sends job.event reply ∷ [])

-- the input was read to an end: all items that it returned arrived, and the end was noted
pub record AllCame {B S : Type 0} (m : Serial B) (b : B) (i : InputState S) : Type 0 where
  pub items : AreCome (m.items b) (handed i)
  pub ended : IsSome i.end
  pub shut : m.shut b

-- The book went down while the input was read: a prefix of the items that the input returned arrived, and no call was made,
-- whatever a caller would send for an event.
pub record WasRefused {B S : Type 0} (m : Serial B) (gave : ℕ → Bool) (first b : B) (i : InputState S) (start log : Option (List Called)) : Type 0 where
  pub items : AreSomeCome (m.items b) (handed i)
  pub unasked : log ≡ start
  pub uncalled : (sends : List ℕ → List ℕ) → m.since gave sends first b []

-- `Finished`: nothing is left; `Spent`: all calls allowed were made, and something is left; `Down`: the book is down
abbrev pub EndsSo : {B : Type 0} → Serial B → B → RunEnd → Type 0
EndsSo m b Finished = (m.down b ≡ false) × m.finished b
EndsSo m b Spent = (m.down b ≡ false) × m.spent b
EndsSo m b Down = m.down b ≡ true

-- the items of the input that arrived: all of them, unless the book went down before the first call
abbrev pub CameSo : {B S : Type 0} → Serial B → (gave : ℕ → Bool) → (first now : B) → InputState S → (start log : Option (List Called)) → RunEnd → Type 0
CameSo m gave first now i start log Finished = AllCame m now i
CameSo m gave first now i start log Spent = AllCame m now i
CameSo m gave first now i start log Down = AllCame m now i ⊎ WasRefused m gave first now i start log

-- The change is of the first item of a list that differs: of the items that the input returned, all before the list had
-- arrived, and the list, which came next, was refused whole. The book went from `first` to the one before it, and no call
-- had ended.
pub record IsChangeOf {B S : Type 0} (m : Serial B) (gave : ℕ → Bool) (sends : List ℕ → List ℕ) (first now : B) (i : InputState S) (change : Change) : Type 0 where
  pub before : B
  pub since : m.since gave sends first before []
  pub front : List Item
  pub list : List Item
  pub rest : List Item
  pub few : length list ≤ MAX_BATCH
  pub handed_out : handed i ≡ front ++ list ++ rest
  pub had_come : AreCome (m.items before) front
  pub came : AreCome (m.items now) front
  pub differs_so : m.differs before list change

-- Memory ran out: these bytes were read, the items of their lines or a prefix of them arrived, and more bytes may have been
-- read after them.
pub record IsCut {S : Type 0} (left : S → Option (List ℕ)) (i : InputState S) (came : ℕ → List Item) : Type 0 where
  pub bytes : List ℕ
  pub more : List ℕ
  pub whole : Bool
  pub taken : TakesFront (left i.found) (left i.source) (bytes ++ more)
  pub at_end : whole ≡ true → IsAtEnd (left i.source)
  pub some : AreSomeCome came (from_start i.start (items_read i.kind i.factor whole bytes).items)

-- all of the input arrived
pub record WasRead {B S : Type 0} (m : Serial B) (faults : S → ℕ) (left : S → Option (List ℕ)) (b : B) (i : InputState S) : Type 0 where
  pub all : AllCame m b i
  pub good : i.failed ≡ false
  pub read : IsInput faults left i

-- Only a part of the input was read: its end was not noted, and no call was made, whatever a caller would send for an event.
pub record WasCut {B S : Type 0} (m : Serial B) (gave : ℕ → Bool) (left : S → Option (List ℕ)) (first b : B) (i : InputState S) (start log : Option (List Called)) : Type 0 where
  pub cut : IsCut left i (m.items b)
  pub going : m.going b
  pub unasked : log ≡ start
  pub uncalled : (sends : List ℕ → List ℕ) → m.since gave sends first b []

-- when memory ran out: after all of the input had arrived, or before the first call
abbrev pub StopsSo : {B S : Type 0} → Serial B → (gave : ℕ → Bool) → (faults : S → ℕ) → (left : S → Option (List ℕ)) → (first now : B) → InputState S → (start log : Option (List Called)) → Type 0
StopsSo m gave faults left first now i start log = WasRead m faults left now i ⊎ WasCut m gave left first now i start log
