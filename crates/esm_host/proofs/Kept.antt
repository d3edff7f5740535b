-- What a disk that keeps its first bytes alone keeps of a write is the front of the whole.
use Rattle.std.proofs.Common.{◌≡◌, ◌⊎◌, inl, inr, ℕ, ◌+◌, ◌-◌, ◌<◌, ◌≤◌, List, [], ◌++◌, length, take, drop, min, arith, sym, ap, ◌∙◌}
use Rattle.std.proofs.Math.Seq.{take-append-add}
use Rattle.std.proofs.lemmas.Bool.{cases_lt}
use Rattle.std.proofs.lemmas.List.{append-nil, append_assoc, nil_from_length, length-take-le, length-drop, take_at, take_all, take-append-le, drop-drop, drop_min}
use Rattle.esm_io.specs.Images.{overwritten}

assembled : (at : ℕ) (kept more : List ℕ) → overwritten kept at more ≡ take at kept ++ (more ++ drop (at + length more) kept)
assembled at kept more = append_assoc (take at kept) more (drop (at + length more) kept)

-- a write behind them changes none of them
pub kept_behind : (n at : ℕ) (kept more : List ℕ) → length kept ≡ n → n ≤ at → kept ≡ take n (overwritten kept at more)
kept_behind n at kept more long behind =
    let all : take at kept ≡ kept = take_all at kept (omega arith) in
    sym (ap (take n) (assembled at kept more) ∙ ap (λ k. take n (k ++ (more ++ drop (at + length more) kept))) all
    ∙ take_at kept (more ++ drop (at + length more) kept) n long)

-- the first k of bytes and of just enough behind them
front_of_two : (k : ℕ) (more rest : List ℕ) → length rest ≡ k - length more → (k < length more) ⊎ (length more ≤ k)
    → take k (more ++ rest) ≡ take (min (length more) k) more ++ rest
front_of_two k more rest long (inl over) =
    let count : min (length more) k ≡ k = omega arith in
    let none : rest ≡ [] = nil_from_length rest (omega arith) in
    take-append-le k more rest (omega arith)
    ∙ sym (ap (λ c. take c more ++ rest) count ∙ ap (λ r. take k more ++ r) none ∙ append-nil (take k more))
front_of_two k more rest long (inr fits) =
    let count : min (length more) k ≡ length more = omega arith in
    let whole : k ≡ length more + (k - length more) = omega arith in
    ap (λ m. take m (more ++ rest)) whole
    ∙ take-append-add more rest (k - length more)
    ∙ ap (λ r. more ++ r) (take_all (k - length more) rest (omega arith))
    ∙ sym (ap (λ c. take c more ++ rest) count ∙ ap (λ m. m ++ rest) (take_all (length more) more (omega arith)))

-- of a write among them as many bytes as they go
pub kept_front : (n at count k : ℕ) (kept more ys : List ℕ) → length kept ≡ n → at ≤ n → count ≡ min (length more) (n - at)
    → k ≡ count → ys ≡ take count more → take at kept ++ (ys ++ drop k (drop at kept)) ≡ take n (overwritten kept at more)
kept_front n at count k kept more ys long within many same written =
    let front : length (take at kept) ≡ at = length-take-le at kept (omega arith) in
    let rest : length (drop (at + length more) kept) ≡ (n - at) - length more = length-drop (at + length more) kept ∙ omega arith in
    let whole : n ≡ length (take at kept) + (n - at) = omega arith in
    let ends : at + k ≡ min (at + length more) (length kept) = omega arith in
    let last : drop k (drop at kept) ≡ drop (at + length more) kept =
    drop-drop k at kept ∙ ap (λ m. drop m kept) ends ∙ drop_min (at + length more) kept in
    ap (λ y. take at kept ++ (y ++ drop k (drop at kept))) written
    ∙ ap (λ d. take at kept ++ (take count more ++ d)) last
    ∙ ap (λ c. take at kept ++ (take c more ++ drop (at + length more) kept)) many
    ∙ sym (ap (λ m. take m (overwritten kept at more)) whole
    ∙ ap (take (length (take at kept) + (n - at))) (assembled at kept more)
    ∙ take-append-add (take at kept) (more ++ drop (at + length more) kept) (n - at)
    ∙ ap (λ t. take at kept ++ t) (front_of_two (n - at) more (drop (at + length more) kept) rest (cases_lt (n - at) (length more))))
