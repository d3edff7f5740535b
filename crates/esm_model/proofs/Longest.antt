-- The longest prefix that meets a test which holds of each prefix of a list that it holds of.
use Rattle.std.proofs.Common.{◌≡◌, ℕ, zero, suc, ◌<◌, ◌≤◌, Bool, true, false, List, [], ◌∷◌, ◌++◌, length, take, refl, sym, ap, ◌∙◌, subst, ◌⊎◌, inl, inr, arith, append_assoc}
use Rattle.std.proofs.lemmas.List.{append-nil}
use Rattle.std.proofs.lemmas.Bool.{cases_Bool, false_from_ne_true}
use Rattle.esm_model.specs.Batches.{longest}

-- the test holds of a list that is not empty where it holds of the list and one more
abbrev pub IsClosed : (List ℕ → Bool) → Type 0
IsClosed p = (xs : List ℕ) (x : ℕ) → 1 ≤ length xs → p (xs ++ x ∷ []) ≡ true → p xs ≡ true

longer : (xs : List ℕ) (x : ℕ) → 1 ≤ length (xs ++ x ∷ [])
longer [] x = omega arith
longer (y ∷ xs) x = omega arith

-- and so of each prefix that is not empty
pub prefix_passes : (p : List ℕ → Bool) → IsClosed p → (xs ys : List ℕ) → 1 ≤ length xs → p (xs ++ ys) ≡ true → p xs ≡ true
prefix_passes p closed xs [] some passes = subst (λ zs. p zs ≡ true) (append-nil xs) passes
prefix_passes p closed xs (y ∷ ys) some passes =
    closed xs y some (prefix_passes p closed (xs ++ y ∷ []) ys (longer xs y) (subst (λ zs. p zs ≡ true) (sym (append_assoc xs (y ∷ []) ys)) passes))

-- so many of xs follow what was seen: it passes, or is nothing new, and no longer one passes
pub record IsCut (p : List ℕ → Bool) (seen xs cut : List ℕ) : Type 0 where
  pub count : ℕ
  pub within : count ≤ length xs
  pub is : cut ≡ seen ++ take count xs
  pub met : (count ≡ 0) ⊎ (p cut ≡ true)
  pub beyond : (k : ℕ) → count < k → k ≤ length xs → p (seen ++ take k xs) ≡ false

longest_after : (p : List ℕ → Bool) → IsClosed p → (seen : List ℕ) (x : ℕ) (xs : List ℕ) → p (seen ++ x ∷ []) ≡ true → IsCut p (seen ++ x ∷ []) xs (longest p (seen ++ x ∷ []) xs) → IsCut p seen (x ∷ xs) (longest p (seen ++ x ∷ []) xs)
longest_after p closed seen x xs here cut = record {
  count = suc cut.count;
  within = (let w = cut.within in omega arith);
  is = cut.is ∙ append_assoc seen (x ∷ []) (take cut.count xs);
  met = inr (elim cut.met [
    | inr passes ↦ passes
    | inl none ↦ subst (λ zs. p zs ≡ true) (sym (cut.is ∙ ap (λ k. (seen ++ x ∷ []) ++ take k xs) none ∙ append-nil (seen ++ x ∷ []))) here
  ]);
  beyond = beyond;
}
  where
    beyond : (k : ℕ) → suc cut.count < k → k ≤ length (x ∷ xs) → p (seen ++ take k (x ∷ xs)) ≡ false
    beyond zero above within = absurd (omega arith)
    beyond (suc k) above within = subst (λ zs. p zs ≡ false) (append_assoc seen (x ∷ []) (take k xs)) (cut.beyond k (omega arith) (omega arith))

longest_here : (p : List ℕ → Bool) → IsClosed p → (seen : List ℕ) (x : ℕ) (xs : List ℕ) → p (seen ++ x ∷ []) ≡ false → IsCut p seen (x ∷ xs) seen
longest_here p closed seen x xs fails = record { count = 0; within = omega arith; is = sym (append-nil seen); met = inl refl; beyond = beyond }
  where
    beyond : (k : ℕ) → 0 < k → k ≤ length (x ∷ xs) → p (seen ++ take k (x ∷ xs)) ≡ false
    beyond zero above within = absurd (omega arith)
    beyond (suc k) above within = false_from_ne_true (p (seen ++ take (suc k) (x ∷ xs))) (λ passes.
        let here : p (seen ++ x ∷ []) ≡ true = prefix_passes p closed (seen ++ x ∷ []) (take k xs) (longer seen x) (subst (λ zs. p zs ≡ true) (sym (append_assoc seen (x ∷ []) (take k xs))) passes) in
        let clash : true ≡ false = sym here ∙ fails in cc)

pub longest_cut : (p : List ℕ → Bool) → IsClosed p → (seen xs : List ℕ) → IsCut p seen xs (longest p seen xs)
longest_cut p closed seen [] = record { count = 0; within = omega arith; is = sym (append-nil seen); met = inl refl; beyond = λ k above within. absurd (omega arith) }
longest_cut p closed seen (x ∷ xs) =
    elim (cases_Bool (p (seen ++ x ∷ []))) [
      | inl passes ↦ rw passes (longest_after p closed seen x xs passes (longest_cut p closed (seen ++ x ∷ []) xs))
      | inr fails ↦ rw fails (longest_here p closed seen x xs fails)
    ]
