-- The scanned state of an answer by whether it has bytes.
use Rattle.std.proofs.Common.{◌≡◌, ℕ, List, [], ◌∷◌, length, refl, arith}
use Rattle.esm_model.specs.Json.{read_json}
use Rattle.esm_window.specs.Scan.{body_state, scanned_state}
use Rattle.esm_model.specs.declared.verdict.StateRead.TheVariants.{Empty}

pub no_bytes : (body : List ℕ) → length body ≡ 0 → scanned_state body ≡ Empty
unfolding scanned_state
no_bytes [] none = refl
no_bytes (x ∷ xs) none = absurd (omega arith)

pub some_bytes : (body : List ℕ) → (length body ≡ 0 → ⊥) → scanned_state body ≡ body_state body (read_json body)
unfolding scanned_state
some_bytes [] some = absurd (some refl)
some_bytes (x ∷ xs) some = refl
