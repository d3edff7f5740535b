-- Digits that are written from the last one.
use Rattle.std.proofs.Common.{◌≡◌, ℕ, ◌+◌, ◌-◌, ◌/◌, ◌%◌, ◌<◌, ◌≤◌, List, [], ◌∷◌, ◌++◌, length, drop, set, false, refl, arith, append_assoc}
use Rattle.std.specs.Fmt.{digit_glyph}
use Rattle.std.proofs.lemmas.Grind.{drop-set_at}
use Rattle.esm_model.specs.Numbers.{last_digits}
use Rattle.esm_model.proofs.NumberLemmas.{last_digits_none, last_digits_more}

-- with one more written, the digits before it are those of the rest
pub one_more : (base width number rest first at : ℕ) (digits : List ℕ) → first < at → at ≤ length digits → last_digits base width number ≡ last_digits base (at - first) rest ++ drop at digits → last_digits base width number ≡ last_digits base (at - 1 - first) (rest / base) ++ drop (at - 1) (set digits (at - 1) (digit_glyph false (rest % base)))
one_more base width number rest first at digits more long h =
    let wide : 0 < at - first = omega arith in
    let one_less : at - first - 1 ≡ at - 1 - first = omega arith in
    let same : at - 1 + 1 ≡ at = omega arith in
    let front = last_digits_more base (at - first) rest wide in
    let written = drop-set_at digits (at - 1) (at - 1) (digit_glyph false (rest % base)) refl (omega arith) in
    rw (written, same, h, front, one_less) (append_assoc (last_digits base (at - 1 - first) (rest / base)) (digit_glyph false (rest % base) ∷ []) (drop at digits))

-- none is left
pub all_written : (base width number rest : ℕ) (first at : ℕ) (digits : List ℕ) → at ≤ first → last_digits base width number ≡ last_digits base (at - first) rest ++ drop at digits → first ≤ at → last_digits base width number ≡ drop first digits
all_written base width number rest first at digits end h low =
    let none : at - first ≡ 0 = omega arith in
    let same : at ≡ first = omega arith in
    let whole = rw (none, last_digits_none base rest) at h in
    rw same at whole
