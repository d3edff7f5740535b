-- How a shared history continues: by the entries of one seat, at which moments, and by entries of other seats alone. A
-- history has its oldest entry first. This product's own.
use Rattle.std.specs.Prelude.{◌≡◌, ℕ, max, Bool, true, List, [], ◌∷◌, ◌++◌, Option, Some, Result, Err}
use Rattle.esm_model.specs.declared.book.CameError.{CameError}
use Rattle.esm_model.specs.declared.book.CameError.TheVariants.{StreamChanged}
use Rattle.esm_model.specs.declared.book.Change.{Change}
use Rattle.esm_model.specs.declared.setup.Told.{Told}
use Rattle.esm_model.specs.declared.setup.Setup.{Setup}
use Rattle.esm_model.specs.Moment.{capped_moment}
use Rattle.esm_model.specs.Entries.{moment_of, last_moment, is_shut}
use Rattle.esm_model.specs.Books.{entries_told}
use Rattle.esm_model.specs.Kept.{Meaning, entries_after, IsLegal, MayFollowAll, AllBy, added}

-- The author n added entries that may follow. The setup stays, and a value that is down stays down. Only seat 0, by which
-- items arrive, can add a change.
pub record GoesOn {T : Type 0} (m : Meaning T) (n : ℕ) (x y : T) : Type 0 where
  pub setup_is : m.setup y ≡ m.setup x
  pub history_is : m.history y ≡ m.history x ++ added (m.history x) (m.history y)
  pub legal : MayFollowAll (m.may_follow (m.setup x)) (m.history x) (added (m.history x) (m.history y))
  pub own : AllBy (m.author (m.setup x)) n (m.history x) (added (m.history x) (m.history y))
  pub marked : m.mark x ≡ true → m.mark y ≡ true
  pub unchanged : (n ≡ 0 → ⊥) → m.change y ≡ m.change x

-- the change that a value has after items arrived or were refused: that of the refusal, if there is one, else the one before
abbrev pub change_told : Option Change → Result (Unit {0}) CameError → Option Change
change_told before (Err (StreamChanged change)) = Some change
change_told before _ = before

-- the entries es follow h legally, and none of them is of the author n
pub record OthersFollow (author : Setup → List Told → Told → ℕ) (may_follow : Setup → List Told → Told → Type 0) (setup : Setup) (n : ℕ) (h es : List Told) : Type 0 where
  pub legal : IsLegal (may_follow setup) (h ++ es)
  pub others : entries_after (author setup) n h es ≡ []

-- each of the author's entries among es, which come after h, comes after the input's end
abbrev pub OwnFollowShut : (List Told → Told → ℕ) → ℕ → List Told → List Told → Type 0
OwnFollowShut author n h [] = Unit {0}
OwnFollowShut author n h (t ∷ es) = (author h t ≡ n → is_shut (entries_told h) ≡ true) × OwnFollowShut author n (h ++ t ∷ []) es

-- moments

-- the entry, which comes after the history, has this moment, or that of the entry before it where that is later, capped at
-- `MAX_MOMENT`
abbrev pub IsAt : ℕ → List Told → Told → Type 0
IsAt moment h t = moment_of t.entry ≡ capped_moment (max moment (last_moment (entries_told h)))

-- each of the entries es, which come after h, is at this moment
abbrev pub AllAt : ℕ → List Told → List Told → Type 0
AllAt moment h [] = Unit {0}
AllAt moment h (t ∷ es) = IsAt moment h t × AllAt moment (h ++ t ∷ []) es

-- the entry, which comes after the history, is at a moment that was given
abbrev pub IsGivenAfter : (ℕ → Bool) → List Told → Told → Type 0
IsGivenAfter gave h t = (moment : ℕ) × (gave moment ≡ true) × IsAt moment h t

-- each of the entries es, which come after h, is at such a moment
abbrev pub AllGiven : (ℕ → Bool) → List Told → List Told → Type 0
AllGiven gave h [] = Unit {0}
AllGiven gave h (t ∷ es) = IsGivenAfter gave h t × AllGiven gave (h ++ t ∷ []) es

-- each of the author's entries among es, which come after h, is at such a moment
abbrev pub OwnGiven : (ℕ → Bool) → (List Told → Told → ℕ) → ℕ → List Told → List Told → Type 0
OwnGiven gave author n h [] = Unit {0}
OwnGiven gave author n h (t ∷ es) = (author h t ≡ n → IsGivenAfter gave h t) × OwnGiven gave author n (h ++ t ∷ []) es
