-- No more records are to be filtered than came.
use Rattle.std.proofs.Common.{◌≡◌, ℕ, zero, suc, ◌+◌, ◌≤◌, Bool, List, [], ◌∷◌, ◌++◌, length, refl, ap, ◌∙◌, inl, inr, arith, length-append}
use Rattle.std.specs.Prelude.{filter}
use Rattle.std.proofs.lemmas.Bool.{cases_Bool}
use Rattle.std.proofs.lemmas.List.Elements.{filter-append}
use Rattle.esm_model.specs.declared.entry.Entry.{Entry}
use Rattle.esm_model.specs.declared.entry.Entry.TheVariants.{Came}
use Rattle.esm_model.specs.Setting.{Setting}
use Rattle.esm_model.specs.Entries.{came_count}
use Rattle.esm_model.specs.Fates.{below}
use Rattle.esm_model.specs.Owed.{is_unsorted, unsorted}
use Rattle.esm_model.proofs.Steps.{span, below_more, came_of_shard}

few_pass : (p : ℕ → Bool) (xs : List ℕ) → length (filter p xs) ≤ length xs
few_pass p [] = omega arith
few_pass p (x ∷ xs) = let rest : length (filter p xs) ≤ length xs = few_pass p xs in elim (cases_Bool (p x)) [ inl is ↦ rw is (omega arith) | inr fails ↦ rw fails (omega arith) ]

length-below : (n : ℕ) → length (below n) ≡ n
length-below zero = refl
length-below (suc n) = omega (arith, length-append (below n) (n ∷ []), length-below n)

length-span : (first count : ℕ) → length (span first count) ≡ count
length-span first count =
    let all : length (below (count + first)) ≡ length (below first ++ span first count) = ap length (below_more first count) in
    omega (arith, all, length-append (below first) (span first count), length-below (count + first), length-below first)

pub filtered_few : (s : Setting) (h : List Entry) (n first count m : ℕ) → unsorted s h n ≡ [] → length (unsorted s (Came n first count m ∷ h) n) ≤ count
filtered_few s h n first count m none =
    let p = is_unsorted s h n in
    let new = span (came_count h n) count in
    let parts : unsorted s (Came n first count m ∷ h) n ≡ unsorted s h n ++ filter (is_unsorted s h n) (span (came_count h n) count) =
    ap (λ k. filter (is_unsorted s h n) (below k)) (came_of_shard n first count m h)
    ∙ ap (filter (is_unsorted s h n)) (below_more (came_count h n) count)
    ∙ filter-append (is_unsorted s h n) (below (came_count h n)) (span (came_count h n) count) in
    counted (length (unsorted s (Came n first count m ∷ h) n)) (length (filter p new)) (length new) (ap length (parts ∙ ap (λ xs. xs ++ filter p new) none)) (few_pass p new) (length-span (came_count h n) count)
  where
    counted : (all some most : ℕ) → all ≡ some → some ≤ most → most ≡ count → all ≤ count
    counted all some most is few long = omega arith
