-- The longest prefix of the numbers below n that passes a test.
use Rattle.std.proofs.Common.{◌≡◌, ℕ, zero, suc, ◌<◌, Bool, true, false, List, [], ◌∷◌, ◌++◌, length, refl, sym, ap, ◌∙◌, inl, inr, arith, append_assoc, cond}
use Rattle.std.specs.Prelude.{take_while}
use Rattle.std.proofs.lemmas.List.{append-nil}
use Rattle.std.proofs.lemmas.List.Sums.{take_while-cons}
use Rattle.std.proofs.lemmas.Bool.{cases_lt}
use Rattle.esm_model.specs.Fates.{below}
use Rattle.esm_model.proofs.Lists.{In, In-here, In-there, In-below}
use Rattle.esm_model.proofs.Counts.{length-below}

-- a front that passes is taken whole
front_taken : (p : ℕ → Bool) (xs ys : List ℕ) → ((i : ℕ) → In xs i → p i ≡ true) → take_while p (xs ++ ys) ≡ xs ++ take_while p ys
front_taken p [] ys all = refl
front_taken p (x ∷ xs) ys all =
    take_while-cons p x (xs ++ ys)
    ∙ ap (λ b. cond b (x ∷ take_while p (xs ++ ys)) []) (all x (In-here x xs x refl))
    ∙ ap (λ zs. x ∷ zs) (front_taken p xs ys (λ i m. all i (In-there x xs i m)))

below_splits : (n k : ℕ) → k < n → (rest : List ℕ) × (below n ≡ below k ++ k ∷ rest)
below_splits zero k low = absurd (omega arith)
below_splits (suc n) k low =
    elim (cases_lt k n) [
      | inl l ↦ (let s : (rest : List ℕ) × (below n ≡ below k ++ k ∷ rest) = below_splits n k l in
          (s.0 ++ n ∷ [], ap (λ xs. xs ++ n ∷ []) s.1 ∙ append_assoc (below k) (k ∷ s.0) (n ∷ [])))
      | inr ge ↦ (let e : n ≡ k = omega arith in ([], ap (λ m. below m ++ m ∷ []) e))
    ]

-- the longest prefix that passes ends at the first number that does not pass
pub prefix_stops : (p : ℕ → Bool) (n k : ℕ) → k < n → ((i : ℕ) → i < k → p i ≡ true) → p k ≡ false → length (take_while p (below n)) ≡ k
prefix_stops p n k low all fails =
    let s : (rest : List ℕ) × (below n ≡ below k ++ k ∷ rest) = below_splits n k low in
    ap (λ xs. length (take_while p xs)) s.1
    ∙ ap length (front_taken p (below k) (k ∷ s.0) (λ i m. all i (In-below k i m)))
    ∙ ap (λ xs. length (below k ++ xs)) (take_while-cons p k s.0 ∙ ap (λ b. cond b (k ∷ take_while p s.0) []) fails)
    ∙ ap length (append-nil (below k))
    ∙ length-below k

-- and is whole where each passes
pub prefix_whole : (p : ℕ → Bool) (n : ℕ) → ((i : ℕ) → i < n → p i ≡ true) → length (take_while p (below n)) ≡ n
prefix_whole p n all =
    ap (λ xs. length (take_while p xs)) (sym (append-nil (below n)))
    ∙ ap length (front_taken p (below n) [] (λ i m. all i (In-below n i m)))
    ∙ ap length (append-nil (below n))
    ∙ length-below n
