-- When a batcher of a stream's book has finished, and what is left for it. This product's own.
use Rattle.std.specs.Prelude.{◌≡◌, ◌≤◌, ℕ, true, List}
use Rattle.esm_model.specs.declared.setup.Setup.{Setup}
use Rattle.esm_model.specs.declared.setup.Told.{Told}
use Rattle.esm_model.specs.Entries.{is_shut, calls_begun}
use Rattle.esm_model.specs.Books.{entries_told, setting_told}
use Rattle.esm_stream_core.specs.Quiet.{IsQuiet, IsWanting}

-- the input has ended, and nothing is left for the batcher
pub record HasFinished (setup : Setup) (history : List Told) (k : ℕ) : Type 0 where
  pub shut : is_shut (entries_told history) ≡ true
  pub quiet : IsQuiet (setting_told setup history) (entries_told history) k

-- something is left for it
abbrev pub HasLeft : Setup → List Told → ℕ → Type 0
HasLeft setup history k = IsWanting (setting_told setup history) (entries_told history) k

-- all calls allowed were made
abbrev pub AreSpent : Setup → List Told → Type 0
AreSpent setup history = setup.calls ≤ calls_begun (entries_told history)
