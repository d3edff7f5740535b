-- Moments that a clock gave: of the entries of a queue's history, and of those that were decided and are not yet added. The
-- words are those of a stream's. This product's own.
use Rattle.std.specs.Prelude.{◌≡◌, ℕ, Bool, true, List, [], ◌∷◌, ⊤}
use Rattle.esm_model.specs.declared.entry.Entry.{Entry}
use Rattle.esm_model.specs.Entries.{moment_of}
use Rattle.esm_model.specs.Moment.{capped_moment}
use Rattle.esm_queue_core.specs.CoreView.{CoreView, moment_for}

-- the entry's moment is one that the clock gave, at most the greatest
abbrev pub IsTimed : (ℕ → Bool) → Entry → Type 0
IsTimed gave e = (t : ℕ) × (gave t ≡ true) × (moment_of e ≡ capped_moment t)

-- and so is that of each of these
abbrev pub AreTimed : (ℕ → Bool) → List Entry → Type 0
AreTimed gave [] = ⊤
AreTimed gave (e ∷ es) = IsTimed gave e × AreTimed gave es

-- So is that of each entry of the history, and of each that is owed: of the one in hand too, if a disk failed.
pub record IsTimedView (gave : ℕ → Bool) (v : CoreView) : Type 0 where
  pub past : AreTimed gave v.past
  pub owed : AreTimed gave v.owed

-- these entries have this moment
abbrev pub HaveMoment : ℕ → List Entry → Type 0
HaveMoment m [] = ⊤
HaveMoment m (e ∷ es) = (moment_of e ≡ m) × HaveMoment m es

-- the moment is one that the clock gave, or that of the last entry of this history if that is later
abbrev pub IsGivenBehind : (ℕ → Bool) → List Entry → ℕ → Type 0
IsGivenBehind gave before m = (t : ℕ) × (gave t ≡ true) × (m ≡ moment_for before t)
