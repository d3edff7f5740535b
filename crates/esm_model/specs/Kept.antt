-- Histories that several authors write: which entries each one added, and which histories are legal. A history has its
-- oldest entry first. This product's own.
use Rattle.std.specs.Prelude.{◌≡◌, ℕ, ◌==◌, if◌then◌else◌, Bool, List, [], ◌∷◌, ◌++◌, length, drop, Option, Some, None}
use Rattle.esm_model.specs.declared.book.Change.{Change}
use Rattle.esm_model.specs.declared.book.Trouble.{Trouble}
use Rattle.esm_model.specs.declared.book.Trouble.TheVariants.{Changed}
use Rattle.esm_model.specs.declared.kept.Kept.{Ghosts as Kept}
use Rattle.esm_model.specs.declared.setup.Told.{Told}
use Rattle.esm_model.specs.declared.setup.Setup.{Setup}

-- the meanings of a type whose values have a history: the ghost members of `Kept`
pub record Meaning (T : Type 0) : Type 1 where
  pub setup : T → Setup
  pub history : T → List Told
  pub mark : T → Bool
  pub change : T → Option Change
  pub author : Setup → List Told → Told → ℕ
  pub may_follow : Setup → List Told → Told → Type 0

-- the meanings, from the members of its trait
abbrev pub meaning : {T : Type 0} → Kept T → Meaning T
meaning members = record { setup = members.setup; history = members.history; mark = members.mark; change = members.change; author = members.author; may_follow = members.may_follow }

-- the change that took a book down, where one did
abbrev pub change_of : Option Trouble → Option Change
change_of (Some (Changed change)) = Some change
change_of _ = None

-- the author n's entries among es, which come after the history h
abbrev pub entries_after : (List Told → Told → ℕ) → ℕ → List Told → List Told → List Told
entries_after author n h [] = []
entries_after author n h (e ∷ es) =
    if author h e == n then e ∷ entries_after author n (h ++ e ∷ []) es else entries_after author n (h ++ e ∷ []) es

-- the entries of the author n
abbrev pub entries_of : (List Told → Told → ℕ) → ℕ → List Told → List Told
entries_of author n h = entries_after author n [] h

-- each of the entries es may follow h and those of es before it
abbrev pub MayFollowAll : (List Told → Told → Type 0) → List Told → List Told → Type 0
MayFollowAll may h [] = Unit {0}
MayFollowAll may h (e ∷ es) = may h e × MayFollowAll may (h ++ e ∷ []) es

-- each entry may follow those before it
abbrev pub IsLegal : (List Told → Told → Type 0) → List Told → Type 0
IsLegal may h = MayFollowAll may [] h

-- the author n added each of the entries es, which come after the history h
abbrev pub AllBy : (List Told → Told → ℕ) → ℕ → List Told → List Told → Type 0
AllBy author n h [] = Unit {0}
AllBy author n h (e ∷ es) = (author h e ≡ n) × AllBy author n (h ++ e ∷ []) es

-- what the history has after its beginning, which is as long as the history `seen`
abbrev pub added : List Told → List Told → List Told
added seen h = drop (length seen) h
