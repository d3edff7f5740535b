-- Lists of parts, and words.
use Rattle.std.proofs.Common.{◌≡◌, ◌≢◌, ℕ, zero, suc, ◌+◌, ◌-◌, ◌%◌, ◌<◌, ◌≤◌, get_or, Bool, true, false, cond, ⊎_elim, inl, inr, List, [], ◌∷◌, ◌++◌, length, refl, sym, ap, ◌∙◌, subst, arith, eq-eqb, ne_eqb, Option, None, Some}
use mathlib.Core.Logic.{dite}
use native.Mathlib.Decide.{ℕ_discrete}
use Rattle.esm_model.specs.declared.book.Change.{Change}
use Rattle.esm_model.specs.declared.setup.Setup.{Setup}
use Rattle.esm_model.specs.declared.setup.Told.{Told}
use Rattle.esm_turn.specs.declared.part.Part.{Part}
use Rattle.std.proofs.Math.ListN.{get_or-append}
use Rattle.std.proofs.Math.Seq.{get_or-append_seam}
use Rattle.esm_turn.specs.Parts.{Within, Each, begun_part, begun_parts, parts_but, but_first, first_of_parts}
use Rattle.esm_turn.specs.Rule.{word_of, out_bit}

pub each_append : (P : Part → Type 0) (xs ys : List Part) → Each P xs → Each P ys → Each P (xs ++ ys)
each_append P [] ys one two = two
each_append P (x ∷ xs) ys one two = (one.0, each_append P xs ys one.1 two)

pub each_map : (P Q : Part → Type 0) (xs : List Part) → ((x : Part) → P x → Q x) → Each P xs → Each Q xs
each_map P Q [] f h = tt
each_map P Q (x ∷ xs) f h = (f x h.0, each_map P Q xs f h.1)

-- the parts that are not of n have other numbers
pub each_but : (P Q : Part → Type 0) (n : ℕ) (xs : List Part) → ((x : Part) → x.number ≢ n → P x → Q x) → Each P xs → Each Q (parts_but n xs)
each_but P Q n [] f h = tt
each_but P Q n (x ∷ xs) f h = dite (ℕ_discrete x.number n)
    (λ e. subst (λ b. Each Q (cond b (parts_but n xs) (x ∷ parts_but n xs))) (sym (eq-eqb x.number n e)) (each_but P Q n xs f h.1))
    (λ ne. subst (λ b. Each Q (cond b (parts_but n xs) (x ∷ parts_but n xs))) (sym (ne_eqb x.number n ne)) (f x ne h.0, each_but P Q n xs f h.1))

module _ (author : Setup → List Told → Told → ℕ) (setup : Setup) (seen : List Told) (change : Option Change) where
  but_begun : (n k count : ℕ) → n < k → parts_but n (begun_parts author setup seen change k count) ≡ begun_parts author setup seen change k count
  but_begun n k zero h = refl
  but_begun n k (suc count) h =
      let p : Part = begun_part author setup seen change k in
      let rest : List Part = begun_parts author setup seen change (suc k) count in
      let ne : k ≢ n = λ e. omega (arith, e) in
      ap (λ b. cond b (parts_but n rest) (p ∷ parts_but n rest)) (ne_eqb k n ne) ∙ ap (λ l. p ∷ l) (but_begun n (suc k) count (omega arith))

  pub cut_begun : (i n : ℕ) → i < n → but_first (begun_parts author setup seen change i (n - i)) ≡ begun_parts author setup seen change (i + 1) (n - (i + 1))
  cut_begun i n h =
      let more : n - i ≡ suc (n - (i + 1)) = omega arith in
      let next : suc i ≡ i + 1 = omega arith in
      ap (λ k. but_first (begun_parts author setup seen change i k)) more ∙ (but_begun i (suc i) (n - (i + 1)) (omega arith) ∙ ap (λ k. begun_parts author setup seen change k (n - (i + 1))) next)

  pub first_begun : (i n : ℕ) → i < n → first_of_parts (begun_parts author setup seen change i (n - i)) ≡ begun_part author setup seen change i ∷ []
  first_begun i n h =
      let more : n - i ≡ suc (n - (i + 1)) = omega arith in ap (λ k. first_of_parts (begun_parts author setup seen change i k)) more

pub mark_even : (mark : Bool) → cond mark 2 0 % 2 ≡ 0
mark_even true = refl
mark_even false = refl

pub mark_small : (mark : Bool) → cond mark 2 0 ≤ 2
mark_small true = omega arith
mark_small false = omega arith

-- where the word is even, no seat has the value
pub free_word : (log : List Told) (mark : Bool) (holder : Option ℕ) → word_of log mark holder % 2 ≡ 0 → holder ≡ None
free_word log mark None h = refl
free_word log true (Some n) h = absurd (omega arith)
free_word log false (Some n) h = absurd (omega arith)

pub none-ne-some : (n : ℕ) → None ≢ Some n
none-ne-some n e = let same : 0 ≡ 1 = ap out_bit e in absurd (omega (arith, same))

number_or : ℕ → Option ℕ → ℕ
number_or d None = d
number_or d (Some n) = n

pub number_is : (k n : ℕ) → Some k ≡ Some n → k ≡ n
unfolding number_or
number_is k n e = ap (number_or 0) e

-- what holds of each place, and of one more
pub each_more : {A : Type 0} (f : ℕ → A) (l : List A) (a : A) (n : ℕ) → length l ≡ n → ((k : ℕ) (d : A) → k < n → get_or l k d ≡ f k) → a ≡ f n
    → (k : ℕ) (d : A) → k < n + 1 → get_or (l ++ a ∷ []) k d ≡ f k
each_more f l a n len old new k d h = dite (ℕ_discrete k n)
    (λ e. ap (λ i. get_or (l ++ a ∷ []) i d) (e ∙ sym len) ∙ (get_or-append_seam l a [] d ∙ (new ∙ ap f (sym e))))
    (λ ne. let lt : k < n = omega arith in get_or-append l (a ∷ []) d k (omega arith) ∙ old k d lt)

pub within_left : (p : Part) (xs ys : List Part) → Within p xs → Within p (xs ++ ys)
within_left p [] ys h = absurd h
within_left p (x ∷ xs) ys h = ⊎_elim (λ (e : p ≡ x). inl e) (λ (more : Within p xs). inr (within_left p xs ys more)) h

pub within_right : (p : Part) (xs ys : List Part) → Within p ys → Within p (xs ++ ys)
within_right p [] ys h = h
within_right p (x ∷ xs) ys h = inr (within_right p xs ys h)
