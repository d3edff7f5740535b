-- What the reader of a book leaves of its input, by what its seat has seen of the shared history. This product's own.
use Rattle.std.specs.Prelude.{◌≡◌, ◌⊎◌, ◌++◌, ℕ, Bool, true, false, List, [], Option, Some, None, Result, Ok, Err}
use Rattle.esm_model.specs.declared.book.CameError.{CameError}
use Rattle.esm_model.specs.declared.book.CameError.TheVariants as refusal
use Rattle.esm_model.specs.declared.book.Change.{Change}
use Rattle.esm_model.specs.declared.setup.Setup.{Setup}
use Rattle.esm_model.specs.declared.setup.Told.{Told}
use Rattle.esm_model.specs.declared.item.Item.{Item}
use Rattle.esm_model.specs.declared.item.LineKind.{LineKind}
use Rattle.esm_input.specs.Reading.{InputState, IsInput, handed}
use Rattle.esm_model.specs.Coming.{Come, AreCome, AreSomeCome}
use Rattle.esm_pool.specs.Ran.{IsSameInput, AllCame, IsLeftOff, IsChangeOf, IsCut}
use Rattle.esm_pool.specs.declared.coming.Stop.{Stop}
use Rattle.esm_pool.specs.declared.coming.Stop.TheVariants.{Down, Spent, OutOfMemory}

-- an input of lines of this kind, of which nothing was read
pub record IsUnread {S : Type 0} (kind : LineKind) (i : InputState S) : Type 0 where
  pub kind_is : i.kind ≡ kind
  pub good : i.failed ≡ false
  pub unread : handed i ≡ []

-- The change is of the first item of a list that differs: all items before that list had arrived after those that were
-- there, when the shared history was a prefix of what it is now.
pub record IsNextChange (items : List Told → ℕ → List Item) (differs : Setup → List Told → List Item → Change → Type 0) (setup : Setup) (seen : List Told) (list : List Item) (now : List Told) (change : Change) : Type 0 where
  pub before : List Told
  pub later : List Told
  pub history : now ≡ before ++ later
  pub front : List Item
  pub next : List Item
  pub rest : List Item
  pub parts : list ≡ front ++ next ++ rest
  pub came : Come (items seen) (items before) front
  pub differs_so : differs setup before next change

-- why the reader stops if its list was refused for this reason
abbrev pub stop_of : Result (Unit {0}) CameError → Result (Unit {0}) Stop
stop_of (Ok u) = Ok u
stop_of (Err (refusal.StreamChanged change)) = Err Down
stop_of (Err refusal.DiskFault) = Err Down
stop_of (Err refusal.Down) = Err Down
stop_of (Err refusal.OutOfMemory) = Err OutOfMemory

-- Why the reader passes on no more of the list: the book is down, and if it has a change, this is of one of the list's
-- items; or memory ran out, and the book has no change.
abbrev pub IsStopFor : (items : List Told → ℕ → List Item) (differs : Setup → List Told → List Item → Change → Type 0) → Setup → (seen : List Told) → List Item → (now : List Told) → (marked : Bool) → (told : Option Change) → Stop → Type 0
IsStopFor items differs setup seen list now marked told Down = (marked ≡ true) × ((change : Change) → told ≡ Some change → IsNextChange items differs setup seen list now change)
IsStopFor items differs setup seen list now marked told Spent = ⊥
IsStopFor items differs setup seen list now marked told OutOfMemory = told ≡ None

-- why the reader that waits for more passes on no more: the book is down, or all calls allowed were made
abbrev pub IsStopAt : (spent : Setup → List Told → Type 0) → Setup → (seen : List Told) → (marked : Bool) → Stop → Type 0
IsStopAt spent setup seen marked Down = marked ≡ true
IsStopAt spent setup seen marked Spent = spent setup seen
IsStopAt spent setup seen marked OutOfMemory = ⊥

-- the reader that waits for more continues: the book is up, and not all calls allowed were made
abbrev pub MayGoOn : (spent : Setup → List Told → Type 0) → Setup → (seen : List Told) → (marked : Bool) → Type 0
MayGoOn spent setup seen marked = (marked ≡ false) × (spent setup seen → ⊥)

-- all that was read had arrived, and the input, which does not show its bytes, had not ended, when all calls allowed were
-- made
pub record HasLeft {S : Type 0} (left : S → Option (List ℕ)) (items : List Told → ℕ → List Item) (spent : Setup → List Told → Type 0) (setup : Setup) (i : InputState S) (seen : List Told) : Type 0 where
  pub calls : spent setup seen
  pub came : AreCome (items seen) (handed i)
  pub going : i.end ≡ None
  pub untold : left i.source ≡ None

-- Why reading stopped: the book is down, and if it has a change, this is of one of the items that the input returned; all
-- calls allowed were made; or memory ran out, and the book has no change.
abbrev pub IsStopOf : {S : Type 0} → (left : S → Option (List ℕ)) → (items : List Told → ℕ → List Item) (differs : Setup → List Told → List Item → Change → Type 0) (spent : Setup → List Told → Type 0) → Setup → InputState S → (seen : List Told) → (marked : Bool) → (told : Option Change) → Stop → Type 0
IsStopOf left items differs spent setup i seen marked told Down = (marked ≡ true) × ((change : Change) → told ≡ Some change → IsChangeOf items differs setup seen i change)
IsStopOf left items differs spent setup i seen marked told Spent = (told ≡ None) × HasLeft left items spent setup i seen
IsStopOf left items differs spent setup i seen marked told OutOfMemory = (told ≡ None) × IsCut left i (items seen)

-- the input was left before its end, because all calls allowed were made
pub record IsReadInPart {S : Type 0} (left : S → Option (List ℕ)) (items : List Told → ℕ → List Item) (spent : Setup → List Told → Type 0) (setup : Setup) (i : InputState S) (seen : List Told) : Type 0 where
  pub calls : spent setup seen
  pub came : IsLeftOff left i (items seen) seen

-- The input was read until its end, until all calls allowed were made while more was awaited, until the book was down, or
-- until memory ran out. If the book has a change, it is of the first item that differs.
pub record HasRead {S : Type 0} (faults : S → ℕ) (left : S → Option (List ℕ)) (items : List Told → ℕ → List Item) (differs : Setup → List Told → List Item → Change → Type 0) (spent : Setup → List Told → Type 0) (setup : Setup) (before after : InputState S) (seen : List Told) (marked : Bool) (told : Option Change) (short : Bool) : Type 0 where
  pub same : IsSameInput before after
  pub read : short ≡ false → IsInput faults left after
  pub good : short ≡ false → after.failed ≡ false
  pub some : short ≡ false → AreSomeCome (items seen) (handed after)
  pub whole : short ≡ false → marked ≡ false → AllCame after (items seen) seen ⊎ IsReadInPart left items spent setup after seen
  pub changed : short ≡ false → (change : Change) → told ≡ Some change → IsChangeOf items differs setup seen after change
  pub cut : short ≡ true → (told ≡ None) × IsCut left after (items seen)
