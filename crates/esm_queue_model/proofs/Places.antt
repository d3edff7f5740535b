-- Lists of places.
use Rattle.std.proofs.Common.{◌≡◌, ℕ, zero, suc, ◌+◌, ◌<◌, ◌≤◌, Bool, true, false, not, List, [], ◌∷◌, ◌++◌, length, take, refl, sym, ap, ◌∙◌, subst, ◌⊎◌, inl, inr, arith}
use Rattle.std.specs.Prelude.{◌==◌, filter}
use Rattle.std.proofs.lemmas.List.{take-append-le, length-append}
use Rattle.std.proofs.lemmas.List.Elements.{filter-append}
use Rattle.std.proofs.lemmas.List.Folds.{list_any-append}
use Rattle.std.proofs.lemmas.Bool.{cases_Bool, or_cases, or_left, or_right, eqb-true, eq-eqb, cases_lt, both_ways}
use Rattle.esm_model.specs.Entries.{holds}
use Rattle.esm_model.specs.Fates.{below}

-- the place stands in the list
abbrev pub In : List ℕ → ℕ → Type 0
In xs i = holds xs i ≡ true

pub In-here : (x : ℕ) (xs : List ℕ) (i : ℕ) → x ≡ i → In (x ∷ xs) i
In-here x xs i e = or_left (x == i) (holds xs i) (eq-eqb x i e)

pub In-there : (x : ℕ) (xs : List ℕ) (i : ℕ) → In xs i → In (x ∷ xs) i
In-there x xs i h = or_right (x == i) (holds xs i) h

pub In-cases : (x : ℕ) (xs : List ℕ) (i : ℕ) → In (x ∷ xs) i → (x ≡ i) ⊎ In xs i
In-cases x xs i h = elim (or_cases (x == i) (holds xs i) h) [ inl e ↦ inl (eqb-true x i e) | inr rest ↦ inr rest ]

pub In-append_left : (xs ys : List ℕ) (i : ℕ) → In xs i → In (xs ++ ys) i
In-append_left xs ys i h = list_any-append (λ p. p == i) xs ys ∙ or_left (holds xs i) (holds ys i) h

pub In-append_right : (xs ys : List ℕ) (i : ℕ) → In ys i → In (xs ++ ys) i
In-append_right xs ys i h = list_any-append (λ p. p == i) xs ys ∙ or_right (holds xs i) (holds ys i) h

pub In-append_cases : (xs ys : List ℕ) (i : ℕ) → In (xs ++ ys) i → In xs i ⊎ In ys i
In-append_cases xs ys i h = or_cases (holds xs i) (holds ys i) (sym (list_any-append (λ p. p == i) xs ys) ∙ h)

pub In-none : (i : ℕ) → In [] i → ⊥
In-none i h = both_ways false refl h

pub In-one : (x i : ℕ) → In (x ∷ []) i → x ≡ i
In-one x i h = elim (In-cases x [] i h) [ inl e ↦ e | inr none ↦ absurd (In-none i none) ]

pub In-take : (k : ℕ) (xs : List ℕ) (i : ℕ) → In (take k xs) i → In xs i
In-take zero xs i h = absurd (In-none i h)
In-take (suc k) [] i h = h
In-take (suc k) (x ∷ xs) i h = elim (In-cases x (take k xs) i h) [ inl e ↦ In-here x xs i e | inr rest ↦ In-there x xs i (In-take k xs i rest) ]

-- a front that is long enough has all
pub take_covers : (k : ℕ) (xs ys : List ℕ) (i : ℕ) → length xs ≤ k → In xs i → In (take k (xs ++ ys)) i
take_covers k [] ys i long h = absurd (In-none i h)
take_covers zero (x ∷ xs) ys i long h = absurd (omega arith)
take_covers (suc k) (x ∷ xs) ys i long h = elim (In-cases x xs i h) [ inl e ↦ In-here x (take k (xs ++ ys)) i e | inr rest ↦ In-there x (take k (xs ++ ys)) i (take_covers k xs ys i (omega arith) rest) ]

pub In-below : (n i : ℕ) → In (below n) i → i < n
In-below zero i h = absurd (In-none i h)
In-below (suc n) i h = elim (In-append_cases (below n) (n ∷ []) i h) [ inl front ↦ (let l : i < n = In-below n i front in omega arith) | inr here ↦ (let e : n ≡ i = In-one n i here in omega arith) ]

pub below-In : (n i : ℕ) → i < n → In (below n) i
below-In zero i h = absurd (omega arith)
below-In (suc n) i h = elim (cases_lt i n) [ inl l ↦ In-append_left (below n) (n ∷ []) i (below-In n i l) | inr ge ↦ (let e : n ≡ i = omega arith in In-append_right (below n) (n ∷ []) i (In-here n [] i e)) ]

pub In-filter : (p : ℕ → Bool) (xs : List ℕ) (i : ℕ) → In (filter p xs) i → In xs i × (p i ≡ true)
In-filter p [] i h = absurd (In-none i h)
In-filter p (x ∷ xs) i h =
    elim (cases_Bool (p x)) [
      | inl is ↦ elim (In-cases x (filter p xs) i (rw is at h)) [
        | inl e ↦ (In-here x xs i e, ap p (sym e) ∙ is)
        | inr rest ↦ (In-there x xs i (In-filter p xs i rest).0, (In-filter p xs i rest).1)
      ]
      | inr fails ↦ (let rest : In (filter p xs) i = rw fails at h in (In-there x xs i (In-filter p xs i rest).0, (In-filter p xs i rest).1))
    ]

pub filter-In : (p : ℕ → Bool) (xs : List ℕ) (i : ℕ) → In xs i → p i ≡ true → In (filter p xs) i
filter-In p [] i h passes = h
filter-In p (x ∷ xs) i h passes =
    elim (In-cases x xs i h) [
      | inl e ↦ (let here : p x ≡ true = ap p e ∙ passes in rw here (In-here x (filter p xs) i e))
      | inr rest ↦ elim (cases_Bool (p x)) [ inl is ↦ rw is (In-there x (filter p xs) i (filter-In p xs i rest passes)) | inr fails ↦ rw fails (filter-In p xs i rest passes) ]
    ]

-- members of a front of what passes of the numbers below n: each smaller number that passes is there too
pub front_closed : (p : ℕ → Bool) (n k i j : ℕ) → In (take k (filter p (below n))) i → j < i → p j ≡ true → In (take k (filter p (below n))) j
front_closed p zero k i j member before passes = absurd (In-none i (In-take k [] i member))
front_closed p (suc n) k i j member before passes =
    let parts : filter p (below (suc n)) ≡ filter p (below n) ++ filter p (n ∷ []) = filter-append p (below n) (n ∷ []) in
    elim (cases_lt (length (filter p (below n))) k) [
      | inl short ↦
          (let i_low : i < suc n = In-below (suc n) i (In-filter p (below (suc n)) i (In-take k (filter p (below (suc n))) i member)).0 in
          let j_low : j < n = omega arith in
          subst (λ xs. In (take k xs) j) (sym parts) (take_covers k (filter p (below n)) (filter p (n ∷ [])) j (omega arith) (filter-In p (below n) j (below-In n j j_low) passes)))
      | inr long ↦
          (let e : take k (filter p (below (suc n))) ≡ take k (filter p (below n)) = ap (take k) parts ∙ take-append-le k (filter p (below n)) (filter p (n ∷ [])) long in
          subst (λ xs. In xs j) (sym e) (front_closed p n k i j (subst (λ xs. In xs i) e member) before passes))
    ]

-- what passes and what does not make up the whole
pub length-parted : (p : ℕ → Bool) (xs : List ℕ) → length xs ≡ length (filter p xs) + length (filter (λ i. not (p i)) xs)
length-parted p [] = omega arith
length-parted p (x ∷ xs) =
    let rest = length-parted p xs in
    elim (cases_Bool (p x)) [ inl is ↦ rw is (omega arith) | inr fails ↦ rw fails (omega arith) ]

pub length-below : (n : ℕ) → length (below n) ≡ n
length-below zero = refl
length-below (suc n) = length-append (below n) (n ∷ []) ∙ (let rest = length-below n in omega arith)
