-- Writing a new list over the file of a pair that is not in use.
use Rattle.std.specs.Prelude.{◌≢◌, ◌≡◌, ◌+◌, ◌⊎◌, ◌≤◌, ◌++◌, [], ◌∷◌, ℕ, List, Option, Some, None, length, slice_index, nat_lt, if◌then◌else◌}
use Rattle.std.specs.Int.{w64, to_be_bytes}
use Rattle.esm_model.specs.declared.limits.TheConstants.{MAX_PAYLOAD}
use Rattle.esm_journal.specs.File.{entries, IsFile}
use Rattle.esm_journal.specs.Pair.{IsSpare, PairOpensTo}

-- the length of the first payload that is too long
abbrev pub first_too_long : List (List ℕ) → Option ℕ
first_too_long [] = None
first_too_long (payload ∷ payloads) = if nat_lt MAX_PAYLOAD (length payload) then Some (length payload) else first_too_long payloads

-- a file whose seal is not open, whatever else it holds
pub record IsClosed (bytes : List ℕ) : Type 0 where
  pub long : 18 ≤ length bytes
  pub seal : slice_index bytes 16 ≢ 1

-- a whole file of these payloads but for its seal, which is not open
pub record IsUnsealed (header : List ℕ) (epoch : ℕ) (payloads : List (List ℕ)) (bytes : List ℕ) : Type 0 where
  pub seal : ℕ
  pub rest : List ℕ
  pub closed : seal ≢ 1
  pub bytes_are : bytes ≡ (header ++ to_be_bytes w64 epoch) ++ seal ∷ (entries payloads ++ 0 ∷ rest)

-- it is a spare beside the file in use, or it is the new file
abbrev pub IsSpareOrNew : List ℕ → ℕ → List ℕ → ℕ → List (List ℕ) → List ℕ → Type 0
IsSpareOrNew kept lower header epoch payloads bytes = IsSpare kept lower bytes ⊎ IsFile header epoch payloads bytes

-- images of a pair open to the payloads under this epoch, or to the list under the next
abbrev pub PairOpensToOldOrNew : List ℕ → ℕ → List (List ℕ) → List (List ℕ) → List ℕ → List ℕ → Type 0
PairOpensToOldOrNew header epoch payloads list one other =
    PairOpensTo header epoch payloads one other ⊎ PairOpensTo header (epoch + 1) list one other
