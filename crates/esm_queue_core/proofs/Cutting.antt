-- The longest front of a list that passes a test, found item by item, and from no more of the list than is needed.
use Rattle.std.proofs.Common.{◌≡◌, ℕ, zero, suc, ◌+◌, ◌<◌, ◌≤◌, Bool, true, false, List, [], ◌∷◌, ◌++◌, length, get_or, take, drop, refl, sym, ap, ◌∙◌, inl, inr, arith, add-one, length-append}
use Rattle.std.specs.Prelude.{nat_lt}
use Rattle.std.proofs.Math.Seq.{drop-cons}
use Rattle.std.proofs.lemmas.List.{length-take-le, take_all, take_more}
use Rattle.std.proofs.lemmas.Bool.{cases_Bool, cases_lt, lt-ltb}
use Rattle.esm_model.specs.Batches.{longest}

next : (xs : List ℕ) (i : ℕ) → i < length xs → drop i xs ≡ get_or xs i 0 ∷ drop (i + 1) xs
next xs i h = drop-cons xs i 0 h ∙ ap (λ k. get_or xs i 0 ∷ drop k xs) (sym (add-one i))

-- the next item does not pass
pub cut_stops : (p : List ℕ → Bool) (xs : List ℕ) (i : ℕ) → i < length xs → p (take (i + 1) xs) ≡ false → longest p (take i xs) (drop i xs) ≡ longest p [] xs → take i xs ≡ longest p [] xs
cut_stops p xs i h fails so_far =
    let more : take (i + 1) xs ≡ take i xs ++ get_or xs i 0 ∷ [] = take_more xs i 0 h in
    let fails' : p (take i xs ++ get_or xs i 0 ∷ []) ≡ false = ap p (sym more) ∙ fails in
    let here : longest p (take i xs) (get_or xs i 0 ∷ drop (i + 1) xs) ≡ take i xs = rw fails' in
    sym here ∙ ap (longest p (take i xs)) (sym (next xs i h)) ∙ so_far

-- it passes
pub cut_goes : (p : List ℕ → Bool) (xs : List ℕ) (i : ℕ) → i < length xs → p (take (i + 1) xs) ≡ true → longest p (take i xs) (drop i xs) ≡ longest p [] xs → longest p (take (i + 1) xs) (drop (i + 1) xs) ≡ longest p [] xs
cut_goes p xs i h passes so_far =
    let more : take (i + 1) xs ≡ take i xs ++ get_or xs i 0 ∷ [] = take_more xs i 0 h in
    let passes' : p (take i xs ++ get_or xs i 0 ∷ []) ≡ true = ap p (sym more) ∙ passes in
    let here : longest p (take i xs) (get_or xs i 0 ∷ drop (i + 1) xs) ≡ longest p (take i xs ++ get_or xs i 0 ∷ []) (drop (i + 1) xs) = rw passes' in
    ap (λ ys. longest p ys (drop (i + 1) xs)) more ∙ sym here ∙ ap (longest p (take i xs)) (sym (next xs i h)) ∙ so_far

-- there is none
pub cut_ends : (p : List ℕ → Bool) (xs : List ℕ) (i : ℕ) → length xs ≤ i → longest p (take i xs) (drop i xs) ≡ longest p [] xs → take i xs ≡ longest p [] xs
cut_ends p xs i h so_far = ap (longest p (take i xs)) (sym (drop_all xs i h)) ∙ so_far
  where
    drop_all : (xs : List ℕ) (i : ℕ) → length xs ≤ i → drop i xs ≡ []
    drop_all [] zero h = refl
    drop_all [] (suc i) h = refl
    drop_all (x ∷ xs) zero h = absurd (omega arith)
    drop_all (x ∷ xs) (suc i) h = drop_all xs i (omega arith)

-- lists that pass the test are no longer than so
abbrev pub IsBounded : (List ℕ → Bool) → ℕ → Type 0
IsBounded p n = (xs : List ℕ) → p xs ≡ true → length xs ≤ n

-- of a longer list the front decides
pub longest_of_front : (p : List ℕ → Bool) (n k : ℕ) (seen xs : List ℕ) → IsBounded p n → length seen ≤ n → length seen + k ≡ n + 1 → longest p seen (take k xs) ≡ longest p seen xs
longest_of_front p n zero seen xs bound few is = absurd (omega arith)
longest_of_front p n (suc k) seen [] bound few is = refl
longest_of_front p n (suc k) seen (x ∷ xs) bound few is = elim (cases_Bool (p (seen ++ x ∷ []))) [
  | inl passes ↦ rw passes (longest_of_front p n k (seen ++ x ∷ []) xs bound (bound (seen ++ x ∷ []) passes) (omega (arith, length-append seen (x ∷ []))))
  | inr fails ↦ rw fails refl
]

pub longest_few : (p : List ℕ → Bool) (n : ℕ) (seen xs : List ℕ) → IsBounded p n → length seen ≤ n → length (longest p seen xs) ≤ n
longest_few p n seen [] bound few = few
longest_few p n seen (x ∷ xs) bound few = elim (cases_Bool (p (seen ++ x ∷ []))) [
  | inl passes ↦ rw passes (longest_few p n (seen ++ x ∷ []) xs bound (bound (seen ++ x ∷ []) passes))
  | inr fails ↦ rw fails few
]

-- whether more stand behind a batch is seen by one more
pub more_behind : (count size : ℕ) (xs : List ℕ) → count ≤ size → nat_lt count (length (take (size + 1) xs)) ≡ nat_lt count (length xs)
more_behind count size xs few = elim (cases_lt size (length xs)) [
  | inr all ↦ ap (λ ys. nat_lt count (length ys)) (take_all (size + 1) xs (omega arith))
  | inl more ↦ (lt-ltb count (length (take (size + 1) xs)) (omega (arith, length-take-le (size + 1) xs (omega arith))) ∙ sym (lt-ltb count (length xs) (omega arith)))
]
