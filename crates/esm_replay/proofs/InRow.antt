-- Named records that stand in a row among those that came.
use Rattle.std.proofs.Common.{◌≡◌, ℕ, zero, suc, ◌+◌, ◌<◌, ◌≤◌, List, [], ◌∷◌, length, get_or, take, drop, add-one, refl, sym, ap, ◌∙◌, subst, arith, Option, Some}
use Rattle.std.specs.Prelude.{slice_get}
use Rattle.std.specs.List.{cons_option}
use Rattle.std.proofs.lemmas.List.Elements.{All-head, All-tail}
use Rattle.esm_model.specs.Records.{Record}
use Rattle.esm_replay.specs.declared.rows.Named.{Named}
use Rattle.esm_replay.specs.Batch.{records_named, AreWithin, StandInRow}

-- one that stands there
record IsThere (rs : List Record) (k : ℕ) : Type 0 where
  own : Record
  at : slice_get rs k ≡ Some own
  next : drop k rs ≡ own ∷ drop (suc k) rs

there : (rs : List Record) (k : ℕ) → k < length rs → IsThere rs k
there [] k l = absurd (omega arith)
there (r ∷ rs) zero l = record { own = r; at = refl; next = refl }
there (r ∷ rs) (suc k) l =
    let t : IsThere rs k = there rs k (omega arith) in
    record { own = t.own; at = t.at; next = t.next }

-- the named records are those of the row
pub row_records : (rs : List Record) (first : ℕ) (ds : List Named) → StandInRow first ds → AreWithin (length rs) ds → take (length ds) (drop first rs) ≡ records_named rs ds
row_records rs first [] row within = refl
row_records rs first (d ∷ ds) row within =
    let low : first < length rs = subst (λ (k : ℕ). k < length rs) row.0 (All-head (λ (x : Named). x.at < length rs) d ds within) in
    let t : IsThere rs first = there rs first low in
    ap (λ (xs : List Record). take (suc (length ds)) xs) t.next
    ∙ ap (λ (xs : List Record). t.own ∷ xs) (row_records rs (suc first) ds row.1 (All-tail (λ (x : Named). x.at < length rs) d ds within))
    ∙ sym (ap (λ (o : Option Record). cons_option o (records_named rs ds)) (ap (slice_get rs) row.0 ∙ t.at))

-- which ends among those that came
pub row_within : (n first : ℕ) (ds : List Named) → 1 ≤ length ds → StandInRow first ds → AreWithin n ds → first + length ds ≤ n
row_within n first [] some row within = absurd (omega arith)
row_within n first (d ∷ []) some row within =
    let low : d.at < n = All-head (λ (x : Named). x.at < n) d [] within in
    let at : d.at ≡ first = row.0 in
    omega (arith, low, at)
row_within n first (d ∷ e ∷ ds) some row within =
    let rest : suc first + length (e ∷ ds) ≤ n = row_within n (suc first) (e ∷ ds) (omega arith) row.1 (All-tail (λ (x : Named). x.at < n) d (e ∷ ds) within) in
    omega (arith, rest)

-- one more stands behind the row

row_next : (first : ℕ) (ds : List Named) (i : ℕ) (d : Named) → i < length ds → (get_or ds i d).at ≡ first + i → StandInRow first (take i ds) → StandInRow first (take (suc i) ds)
row_next first [] i d low is row = absurd (omega (arith, low))
row_next first (e ∷ ds) zero d low is row = (let at : e.at ≡ first + 0 = is in omega (arith, at), tt)
row_next first (e ∷ ds) (suc i) d low is row = (row.0, row_next (suc first) ds i d (omega (arith, low)) (omega (arith, is)) row.1)

pub row_more : (first : ℕ) (ds : List Named) (i : ℕ) (d : Named) → i < length ds → (get_or ds i d).at ≡ first + i → StandInRow first (take i ds) → StandInRow first (take (i + 1) ds)
row_more first ds i d low is row = subst (λ (k : ℕ). StandInRow first (take k ds)) (sym (add-one i)) (row_next first ds i d low is row)
