-- Counts of a shard's records by their fates, and the checkpoint as a longest prefix.
use Rattle.std.proofs.Common.{◌≡◌, ℕ, zero, suc, ◌+◌, ◌<◌, ◌≤◌, Bool, true, List, [], ◌∷◌, ◌++◌, length, refl, sym, ◌∙◌, subst, inl, inr, Option, Some, None, arith, length-append}
use Rattle.std.specs.Prelude.{filter, take_while, slice_get, is_none}
use Rattle.std.proofs.lemmas.Bool.{cases_Bool, cases_lt}
use Rattle.std.proofs.lemmas.List.Sums.{take_while-cons}
use Rattle.esm_model.specs.declared.entry.Fate.{Fate}
use Rattle.esm_model.specs.declared.entry.Fate.TheVariants.{Succeeded, Filtered, Expired, Exhausted}
use Rattle.esm_model.specs.declared.entry.Entry.{Entry}
use Rattle.esm_model.specs.Setting.{Setting}
use Rattle.esm_model.specs.Entries.{came_count}
use Rattle.esm_model.specs.Fates.{below, fate, has_fate, is_fate}
use Rattle.esm_model.specs.Checkpoint.{checkpoint}
use Rattle.esm_model.specs.Laws.{EveryRecordCounted, CheckpointIsLongest}

-- by fate

count_of : (ℕ → Option Fate) → Fate → List ℕ → ℕ
count_of g f xs = length (filter (λ i. is_fate f (g i)) xs)

open_of : (ℕ → Option Fate) → List ℕ → ℕ
open_of g xs = length (filter (λ i. is_none (g i)) xs)

all_of : (ℕ → Option Fate) → List ℕ → ℕ
all_of g xs = count_of g Succeeded xs + count_of g Filtered xs + count_of g Expired xs + count_of g Exhausted xs + open_of g xs

counted_at : (g : ℕ → Option Fate) (x : ℕ) (xs : List ℕ) (o : Option Fate) → g x ≡ o → length xs ≡ all_of g xs → length (x ∷ xs) ≡ all_of g (x ∷ xs)
unfolding all_of count_of open_of
counted_at g x xs None is before = rw is (omega (arith, before))
counted_at g x xs (Some Succeeded) is before = rw is (omega (arith, before))
counted_at g x xs (Some Filtered) is before = rw is (omega (arith, before))
counted_at g x xs (Some Expired) is before = rw is (omega (arith, before))
counted_at g x xs (Some Exhausted) is before = rw is (omega (arith, before))

counted : (g : ℕ → Option Fate) (xs : List ℕ) → length xs ≡ all_of g xs
unfolding all_of count_of open_of
counted g [] = refl
counted g (x ∷ xs) = counted_at g x xs (g x) refl (counted g xs)

pub length-below : (n : ℕ) → length (below n) ≡ n
length-below zero = refl
length-below (suc n) = (let before : length (below n) ≡ n = length-below n in omega (arith, length-append (below n) (n ∷ [])))

pub counted_of_legal : (s : Setting) (h : List Entry) → EveryRecordCounted s h
unfolding all_of count_of open_of
counted_of_legal s h n = sym (length-below (came_count h n)) ∙ counted (fate s h n) (below (came_count h n))

-- the checkpoint

get_left : (xs ys : List ℕ) (i : ℕ) → i < length xs → slice_get (xs ++ ys) i ≡ slice_get xs i
get_left [] ys i within = absurd (omega arith)
get_left (x ∷ xs) ys zero within = refl
get_left (x ∷ xs) ys (suc i) within = get_left xs ys i (omega arith)

get_end : (xs : List ℕ) (x : ℕ) → slice_get (xs ++ x ∷ []) (length xs) ≡ Some x
get_end [] x = refl
get_end (y ∷ xs) x = get_end xs x

-- the i-th of the numbers below n is i
pub get_below : (n i : ℕ) → i < n → slice_get (below n) i ≡ Some i
get_below zero i within = absurd (omega arith)
get_below (suc n) i within =
    let long : length (below n) ≡ n = length-below n in
    elim (cases_lt i n) [
      | inl low ↦ get_left (below n) (n ∷ []) i (omega arith) ∙ get_below n i low
      | inr high ↦ (let last : i ≡ n = omega arith in
          subst (λ k. slice_get (below n ++ n ∷ []) k ≡ Some i) (long ∙ sym last) (subst (λ k. slice_get (below n ++ n ∷ []) (length (below n)) ≡ Some k) (sym last) (get_end (below n) n)))
    ]

-- each of the front passes
front_at : (p : ℕ → Bool) (y : ℕ) (xs : List ℕ) (x : ℕ) → ((i : ℕ) → i < length (take_while p xs) → slice_get xs i ≡ Some x → p x ≡ true)
    → (i : ℕ) → i < suc (length (take_while p xs)) → slice_get (y ∷ xs) i ≡ Some x → p y ≡ true → p x ≡ true
front_at p y xs x before zero within at passes = (let same : y ≡ x = cc in subst (λ k. p k ≡ true) same passes)
front_at p y xs x before (suc i) within at passes = before i (omega arith) at

front_passes : (p : ℕ → Bool) (xs : List ℕ) (x i : ℕ) → i < length (take_while p xs) → slice_get xs i ≡ Some x → p x ≡ true
front_passes p [] x i within at = cc
front_passes p (y ∷ xs) x i within at =
    elim (cases_Bool (p y)) [
      | inl passes ↦ front_at p y xs x (front_passes p xs x) i (rw (take_while-cons p y xs, passes) at within) at passes
      | inr fails ↦ (let none : i < 0 = rw (take_while-cons p y xs, fails) at within in absurd (omega arith))
    ]

-- and so many pass at the front, so the front is as long
front_longest : (p : ℕ → Bool) (xs : List ℕ) (k : ℕ) → k ≤ length xs → ((i x : ℕ) → i < k → slice_get xs i ≡ Some x → p x ≡ true) → k ≤ length (take_while p xs)
front_longest p [] k within all = within
front_longest p (y ∷ xs) zero within all = omega arith
front_longest p (y ∷ xs) (suc k) within all =
    let here : p y ≡ true = all 0 y (omega arith) refl in
    let rest : k ≤ length (take_while p xs) = front_longest p xs k (omega arith) (λ i x low at. all (suc i) x (omega arith) at) in
    rw (take_while-cons p y xs, here) (omega (arith, rest))

front_within : (p : ℕ → Bool) (xs : List ℕ) → length (take_while p xs) ≤ length xs
front_within p [] = omega arith
front_within p (y ∷ xs) =
    let rest : length (take_while p xs) ≤ length xs = front_within p xs in
    rw (take_while-cons p y xs) (elim (cases_Bool (p y)) [ inl passes ↦ rw passes (omega (arith, rest)) | inr fails ↦ rw fails (omega arith) ])

pub checkpoint_longest : (s : Setting) (h : List Entry) (n : ℕ) → CheckpointIsLongest s h n
checkpoint_longest s h n =
    let long : length (below (came_count h n)) ≡ came_count h n = length-below (came_count h n) in
    let within : checkpoint s h n ≤ length (below (came_count h n)) = front_within (has_fate s h n) (below (came_count h n)) in
    record {
      within = omega (arith, within, long);
      fated = λ i low. front_passes (has_fate s h n) (below (came_count h n)) i i low (get_below (came_count h n) i (omega (arith, within, long)));
      longest = λ k low all. front_longest (has_fate s h n) (below (came_count h n)) k (omega (arith, long)) (λ i x below_k at.
          let same : Some i ≡ Some x = sym (get_below (came_count h n) i (omega arith)) ∙ at in
          let e : i ≡ x = cc in
          subst (λ j. has_fate s h n j ≡ true) e (all i below_k));
    }
