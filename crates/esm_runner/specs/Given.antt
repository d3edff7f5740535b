-- The moments of entries, as a clock gave them. This product's own.
use Rattle.std.specs.Prelude.{ℕ, Bool, List, [], ◌∷◌, ⊤}
use Rattle.esm_model.specs.declared.entry.Entry.{Entry}
use Rattle.esm_model.specs.Entries.{moment_of}
use Rattle.esm_stream_book.specs.Moments.{IsGivenBehind}

-- the moment is one that the clock gave, or that of the entry before if that is later, and at most `MAX_MOMENT`
abbrev pub IsGiven : (ℕ → Bool) → List Entry → ℕ → Type 0
IsGiven gave h m = IsGivenBehind gave h m

-- the same for each entry of a history, newest entry first
abbrev pub AreGiven : (ℕ → Bool) → List Entry → Type 0
AreGiven gave [] = ⊤
AreGiven gave (e ∷ h) = AreGiven gave h × IsGiven gave h (moment_of e)
