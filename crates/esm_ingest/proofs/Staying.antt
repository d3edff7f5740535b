-- The places of records that stay open.
use Rattle.std.proofs.Common.{◌≡◌, ℕ, ◌+◌, ◌≤◌, Bool, true, false, cond, List, [], ◌∷◌, length, sym, ap, subst, arith}
use Rattle.std.specs.Prelude.{All}
use Rattle.std.proofs.lemmas.List.Elements.{All-cons, All-nil}
use Rattle.esm_model.specs.Records.{Record}
use Rattle.esm_model.specs.Setting.{Setting}
use Rattle.esm_ingest.specs.Judged.{is_staying_at, staying_from, IsInRow}

in_row : (s : Setting) (n first count from : ℕ) (rs : List Record) → first ≤ from → from + length rs ≤ first + count → All (IsInRow first count) (staying_from s n from rs)
in_row s n first count from [] low high = All-nil (IsInRow first count)
in_row s n first count from (r ∷ rs) low high =
    let here : IsInRow first count from = record { from = low; below = omega arith } in
    let rest = in_row s n first count (from + 1) rs (omega arith) (omega arith) in
    step (is_staying_at s n from r) (staying_from s n (from + 1) rs) here rest
  where
    step : (b : Bool) (ps : List ℕ) → IsInRow first count from → All (IsInRow first count) ps → All (IsInRow first count) (cond b (from ∷ ps) ps)
    step true ps here rest = All-cons (IsInRow first count) from ps here rest
    step false ps here rest = rest

-- each stands where one of the records does
pub staying_in_row : (s : Setting) (n first : ℕ) (slice rs : List Record) (ps : List ℕ) → slice ≡ rs → ps ≡ staying_from s n first slice → All (IsInRow first (length rs)) ps
staying_in_row s n first slice rs ps same is =
    let len : length slice ≡ length rs = ap (λ (xs : List Record). length xs) same in
    subst (All (IsInRow first (length rs))) (sym is) (in_row s n first (length rs) first slice (omega arith) (omega arith))
