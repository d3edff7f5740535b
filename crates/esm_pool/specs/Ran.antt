-- What a run of a book's reader and batchers leaves. This product's own.
use Rattle.std.specs.Prelude.{◌≡◌, ◌<◌, ◌⊎◌, ◌++◌, ℕ, Bool, true, false, List, Option, None, IsSome}
use Rattle.esm_io.specs.Told.{TakesFront}
use Rattle.esm_model.specs.declared.book.Change.{Change}
use Rattle.esm_model.specs.declared.setup.Setup.{Setup}
use Rattle.esm_model.specs.declared.setup.Told.{Told}
use Rattle.esm_model.specs.Books.{entries_told}
use Rattle.esm_model.specs.Entries.{is_shut}
use Rattle.esm_model.specs.declared.item.Item.{Item}
use Rattle.esm_input.specs.Positions.{from_start}
use Rattle.esm_input.specs.Reading.{InputState, items_read, handed}
use Rattle.esm_model.specs.Coming.{AreCome, AreSomeCome}
use Rattle.esm_pool.specs.declared.running.RunEnd.{RunEnd}
use Rattle.esm_pool.specs.declared.running.RunEnd.TheVariants.{Finished, Spent, Down}

-- the parameters with which the input was made stay
pub record IsSameInput {S : Type 0} (before after : InputState S) : Type 0 where
  pub kind : after.kind ≡ before.kind
  pub factor : after.factor ≡ before.factor
  pub start : after.start ≡ before.start
  pub found : after.found ≡ before.found

-- something is left for one of the batchers below the number
abbrev pub HasLeftOne : (left : Setup → List Told → ℕ → Type 0) → Setup → List Told → (batchers : ℕ) → Type 0
HasLeftOne left setup h batchers = (k : ℕ) × (k < batchers) × left setup h k

-- `Finished`: all batchers below the number have finished; `Spent`: all calls allowed were made; `Down`: the book is down
abbrev pub EndsSo : (finished : Setup → List Told → ℕ → Type 0) (spent : Setup → List Told → Type 0) → Setup → List Told → (mark : Bool) → (batchers : ℕ) → RunEnd → Type 0
EndsSo finished spent setup h mark batchers Finished = (mark ≡ false) × ((k : ℕ) → k < batchers → finished setup h k)
EndsSo finished spent setup h mark batchers Spent = (mark ≡ false) × spent setup h
EndsSo finished spent setup h mark batchers Down = mark ≡ true

-- the input was read to an end: all items that it returned arrived, and the end was noted
pub record AllCame {S : Type 0} (i : InputState S) (came : ℕ → List Item) (h : List Told) : Type 0 where
  pub items : AreCome came (handed i)
  pub ended : IsSome i.end
  pub shut : is_shut (entries_told h) ≡ true

-- the input had not ended and does not show its bytes: all items that it returned arrived, and the end was noted because all
-- calls allowed were made
pub record IsLeftOff {S : Type 0} (left : S → Option (List ℕ)) (i : InputState S) (came : ℕ → List Item) (h : List Told) : Type 0 where
  pub items : AreCome came (handed i)
  pub going : i.end ≡ None
  pub untold : left i.source ≡ None
  pub shut : is_shut (entries_told h) ≡ true

-- the items of the input that arrived: all of them; or all that it returned until all calls allowed were made; or a prefix
-- of those that it returned if the book went down
abbrev pub CameSo : {S : Type 0} → (left : S → Option (List ℕ)) → InputState S → (came : ℕ → List Item) → List Told → RunEnd → Type 0
CameSo left i came h Finished = AllCame i came h
CameSo left i came h Spent = AllCame i came h ⊎ IsLeftOff left i came h
CameSo left i came h Down = AreSomeCome came (handed i)

-- The change is of the first item of a list that differs: of the items that the input returned, all before the list had
-- arrived, when the history was a prefix of what it is now, and the list came next.
pub record IsChangeOf {S : Type 0} (items : List Told → ℕ → List Item) (differs : Setup → List Told → List Item → Change → Type 0) (setup : Setup) (h : List Told) (i : InputState S) (change : Change) : Type 0 where
  pub before : List Told
  pub later : List Told
  pub history : h ≡ before ++ later
  pub front : List Item
  pub list : List Item
  pub rest : List Item
  pub handed_out : handed i ≡ front ++ list ++ rest
  pub came : AreCome (items before) front
  pub differs_so : differs setup before list change

-- Memory ran out: these bytes were read, the items of their lines or a prefix of them arrived, and more bytes may have been
-- read after them.
pub record IsCut {S : Type 0} (left : S → Option (List ℕ)) (i : InputState S) (came : ℕ → List Item) : Type 0 where
  pub bytes : List ℕ
  pub more : List ℕ
  pub whole : Bool
  pub taken : TakesFront (left i.found) (left i.source) (bytes ++ more)
  pub some : AreSomeCome came (from_start i.start (items_read i.kind i.factor whole bytes).items)
