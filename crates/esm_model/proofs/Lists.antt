-- Lists of places, and tests on them.
use Rattle.std.proofs.Common.{◌≡◌, ℕ, zero, suc, ◌<◌, ◌≤◌, Bool, true, false, not, cond, ◌&&◌, List, [], ◌∷◌, ◌++◌, length, take, drop, refl, sym, ap, ◌∙◌, subst, ◌⊎◌, inl, inr, append_assoc, arith, Option, Some, None}
use Rattle.std.specs.Prelude.{◌==◌, filter, take_while, is_some, is_none}
use Rattle.std.specs.Option.{option_or}
use Rattle.std.proofs.lemmas.List.{take-append-le, take-append-drop}
use Rattle.std.proofs.lemmas.List.Elements.{filter-append}
use Rattle.std.proofs.lemmas.List.Folds.{list_any-append}
use Rattle.std.proofs.lemmas.List.Sums.{take_while-cons}
use Rattle.std.proofs.lemmas.Bool.{cases_Bool, or_cases, or_left, or_right, eqb-true, eq-eqb, cases_lt, false_from_ne_true}
use Rattle.esm_model.specs.Entries.{holds}
use Rattle.esm_model.specs.Fates.{below}

-- x stands in the list
abbrev pub In : List ℕ → ℕ → Type 0
In xs i = holds xs i ≡ true

pub is_none-option_or : {A : Type 0} (a b : Option A) → is_none (option_or a b) ≡ (is_none a && is_none b)
is_none-option_or None b = refl
is_none-option_or (Some x) b = refl

pub option_or_keeps : {A : Type 0} (a b : Option A) → is_some a ≡ true → option_or a b ≡ a
option_or_keeps None b h = cc
option_or_keeps (Some x) b h = refl

pub filter_both : (p q : ℕ → Bool) (xs : List ℕ) → filter (λ x. p x && q x) xs ≡ filter q (filter p xs)
filter_both p q [] = refl
filter_both p q (x ∷ xs) =
    elim (cases_Bool (p x)) [
      | inl is ↦ elim (cases_Bool (q x)) [
        | inl also ↦ simp (is, also) (ap (λ zs. x ∷ zs) (filter_both p q xs))
        | inr never ↦ simp (is, never) (filter_both p q xs)
      ]
      | inr fails ↦ simp fails (filter_both p q xs)
    ]

-- the front where a test holds is no shorter where a weaker test is taken, or the list goes on
pub take_while_longer : (p q : ℕ → Bool) (weaker : (x : ℕ) → p x ≡ true → q x ≡ true) (xs ys : List ℕ) → length (take_while p xs) ≤ length (take_while q (xs ++ ys))
take_while_longer p q weaker [] ys = omega arith
take_while_longer p q weaker (x ∷ xs) ys =
    let rest : length (take_while p xs) ≤ length (take_while q (xs ++ ys)) = take_while_longer p q weaker xs ys in
    rw (take_while-cons p x xs, take_while-cons q x (xs ++ ys))
    (elim (cases_Bool (p x)) [
      | inl is ↦ (let also : q x ≡ true = weaker x is in rw (is, also) (omega (arith, rest)))
      | inr fails ↦ rw fails (omega arith)
    ])

pub In-here : (x : ℕ) (xs : List ℕ) (i : ℕ) → x ≡ i → In (x ∷ xs) i
In-here x xs i e = or_left (x == i) (holds xs i) (eq-eqb x i e)

pub In-there : (x : ℕ) (xs : List ℕ) (i : ℕ) → In xs i → In (x ∷ xs) i
In-there x xs i h = or_right (x == i) (holds xs i) h

pub In-cases : (x : ℕ) (xs : List ℕ) (i : ℕ) → In (x ∷ xs) i → (x ≡ i) ⊎ In xs i
In-cases x xs i h = elim (or_cases (x == i) (holds xs i) h) [ inl e ↦ inl (eqb-true x i e) | inr rest ↦ inr rest ]

pub In-append_left : (xs ys : List ℕ) (i : ℕ) → In xs i → In (xs ++ ys) i
In-append_left xs ys i h = list_any-append (λ p. p == i) xs ys ∙ or_left (holds xs i) (holds ys i) h

pub In-append_right : (xs ys : List ℕ) (i : ℕ) → In ys i → In (xs ++ ys) i
In-append_right xs ys i h = list_any-append (λ p. p == i) xs ys ∙ or_right (holds xs i) (holds ys i) h

pub In-append_cases : (xs ys : List ℕ) (i : ℕ) → In (xs ++ ys) i → In xs i ⊎ In ys i
In-append_cases xs ys i h = or_cases (holds xs i) (holds ys i) (sym (list_any-append (λ p. p == i) xs ys) ∙ h)

pub In-none : (i : ℕ) → In [] i → ⊥
In-none i h = cc

pub In-one : (x i : ℕ) → In (x ∷ []) i → x ≡ i
In-one x i h = elim (In-cases x [] i h) [ inl e ↦ e | inr none ↦ absurd (In-none i none) ]

pub In-take : (k : ℕ) (xs : List ℕ) (i : ℕ) → In (take k xs) i → In xs i
In-take zero xs i h = absurd (In-none i h)
In-take (suc k) [] i h = h
In-take (suc k) (x ∷ xs) i h = elim (In-cases x (take k xs) i h) [ inl e ↦ In-here x xs i e | inr rest ↦ In-there x xs i (In-take k xs i rest) ]

-- a front that is long enough has all
pub take_covers : (k : ℕ) (xs ys : List ℕ) (i : ℕ) → length xs ≤ k → In xs i → In (take k (xs ++ ys)) i
take_covers k [] ys i long h = absurd (In-none i h)
take_covers zero (x ∷ xs) ys i long h = absurd (omega arith)
take_covers (suc k) (x ∷ xs) ys i long h = elim (In-cases x xs i h) [ inl e ↦ In-here x (take k (xs ++ ys)) i e | inr rest ↦ In-there x (take k (xs ++ ys)) i (take_covers k xs ys i (omega arith) rest) ]

pub In-below : (n i : ℕ) → In (below n) i → i < n
In-below zero i h = absurd (In-none i h)
In-below (suc n) i h = elim (In-append_cases (below n) (n ∷ []) i h) [ inl front ↦ (let l : i < n = In-below n i front in omega arith) | inr here ↦ (let e : n ≡ i = In-one n i here in omega arith) ]

pub below-In : (n i : ℕ) → i < n → In (below n) i
below-In zero i h = absurd (omega arith)
below-In (suc n) i h = elim (cases_lt i n) [ inl l ↦ In-append_left (below n) (n ∷ []) i (below-In n i l) | inr ge ↦ (let e : n ≡ i = omega arith in In-append_right (below n) (n ∷ []) i (In-here n [] i e)) ]

pub In-filter : (p : ℕ → Bool) (xs : List ℕ) (i : ℕ) → In (filter p xs) i → In xs i × (p i ≡ true)
In-filter p [] i h = absurd (In-none i h)
In-filter p (x ∷ xs) i h =
    elim (cases_Bool (p x)) [
      | inl is ↦ elim (In-cases x (filter p xs) i (rw is at h)) [
        | inl e ↦ (In-here x xs i e, ap p (sym e) ∙ is)
        | inr rest ↦ (In-there x xs i (In-filter p xs i rest).0, (In-filter p xs i rest).1)
      ]
      | inr fails ↦ (let rest : In (filter p xs) i = rw fails at h in (In-there x xs i (In-filter p xs i rest).0, (In-filter p xs i rest).1))
    ]

pub filter-In : (p : ℕ → Bool) (xs : List ℕ) (i : ℕ) → In xs i → p i ≡ true → In (filter p xs) i
filter-In p [] i h passes = h
filter-In p (x ∷ xs) i h passes =
    elim (In-cases x xs i h) [
      | inl e ↦ (let here : p x ≡ true = ap p e ∙ passes in rw here (In-here x (filter p xs) i e))
      | inr rest ↦ elim (cases_Bool (p x)) [ inl is ↦ rw is (In-there x (filter p xs) i (filter-In p xs i rest passes)) | inr fails ↦ rw fails (filter-In p xs i rest passes) ]
    ]

-- members of a front of what passes of the numbers below n: each smaller number that passes is there too
pub front_closed : (p : ℕ → Bool) (n k i j : ℕ) → In (take k (filter p (below n))) i → j < i → p j ≡ true → In (take k (filter p (below n))) j
front_closed p zero k i j member before passes = absurd (In-none i (In-take k [] i member))
front_closed p (suc n) k i j member before passes =
    let parts : filter p (below (suc n)) ≡ filter p (below n) ++ filter p (n ∷ []) = filter-append p (below n) (n ∷ []) in
    elim (cases_lt (length (filter p (below n))) k) [
      | inl short ↦
          (let i_low : i < suc n = In-below (suc n) i (In-filter p (below (suc n)) i (In-take k (filter p (below (suc n))) i member)).0 in
          let j_low : j < n = omega arith in
          subst (λ xs. In (take k xs) j) (sym parts) (take_covers k (filter p (below n)) (filter p (n ∷ [])) j (omega arith) (filter-In p (below n) j (below-In n j j_low) passes)))
      | inr long ↦
          (let e : take k (filter p (below (suc n))) ≡ take k (filter p (below n)) = ap (take k) parts ∙ take-append-le k (filter p (below n)) (filter p (n ∷ [])) long in
          subst (λ xs. In xs j) (sym e) (front_closed p n k i j (subst (λ xs. In xs i) e member) before passes))
    ]

-- xs begins ys
abbrev pub IsFront : List ℕ → List ℕ → Type 0
IsFront xs ys = (rest : List ℕ) × (ys ≡ xs ++ rest)

-- no number stands twice
abbrev pub Distinct : List ℕ → Type 0
Distinct [] = Unit {0}
Distinct (x ∷ xs) = (holds xs x ≡ false) × Distinct xs

pub not_in : (xs : List ℕ) (i : ℕ) → (In xs i → ⊥) → holds xs i ≡ false
not_in xs i h = false_from_ne_true (holds xs i) h

pub apart : (xs : List ℕ) (i : ℕ) → holds xs i ≡ false → In xs i → ⊥
apart xs i a b = cc

pub Distinct-filter : (p : ℕ → Bool) (xs : List ℕ) → Distinct xs → Distinct (filter p xs)
Distinct-filter p [] d = tt
Distinct-filter p (x ∷ xs) d =
    elim (cases_Bool (p x)) [
      | inl is ↦ rw is (not_in (filter p xs) x (λ h. apart xs x d.0 (In-filter p xs x h).0), Distinct-filter p xs d.1)
      | inr fails ↦ rw fails (Distinct-filter p xs d.1)
    ]

pub Distinct-push : (xs : List ℕ) (n : ℕ) → Distinct xs → (In xs n → ⊥) → Distinct (xs ++ n ∷ [])
Distinct-push [] n d h = (refl, tt)
Distinct-push (x ∷ xs) n d h = (
  not_in (xs ++ n ∷ []) x (λ m. elim (In-append_cases xs (n ∷ []) x m) [
    | inl front ↦ apart xs x d.0 front
    | inr here ↦ h (In-here x xs n (sym (In-one n x here)))
  ]),
  Distinct-push xs n d.1 (λ m. h (In-there x xs n m)),
)

pub Distinct-below : (n : ℕ) → Distinct (below n)
Distinct-below zero = tt
Distinct-below (suc n) = Distinct-push (below n) n (Distinct-below n) (λ h. let l : n < n = In-below n n h in absurd (omega arith))

pub Distinct-apart : (xs ys : List ℕ) (i : ℕ) → Distinct (xs ++ ys) → In xs i → In ys i → ⊥
Distinct-apart [] ys i d a b = In-none i a
Distinct-apart (x ∷ xs) ys i d a b =
    elim (In-cases x xs i a) [
      | inl e ↦ apart (xs ++ ys) x d.0 (In-append_right xs ys x (subst (λ k. In ys k) (sym e) b))
      | inr rest ↦ Distinct-apart xs ys i d.1 rest b
    ]

-- a filter that keeps each member
pub filter_all : (p : ℕ → Bool) (xs : List ℕ) → ((i : ℕ) → In xs i → p i ≡ true) → filter p xs ≡ xs
filter_all p [] h = refl
filter_all p (x ∷ xs) h = rw (h x (In-here x xs x refl)) (ap (λ ys. x ∷ ys) (filter_all p xs (λ i m. h i (In-there x xs i m))))

-- a filter that keeps none
pub filter_none : (p : ℕ → Bool) (xs : List ℕ) → ((i : ℕ) → In xs i → p i ≡ false) → filter p xs ≡ []
filter_none p [] h = refl
filter_none p (x ∷ xs) h = rw (h x (In-here x xs x refl)) (filter_none p xs (λ i m. h i (In-there x xs i m)))

-- a filter that keeps each member of the front
pub front_filter : (p : ℕ → Bool) (xs ys : List ℕ) → ((i : ℕ) → In xs i → p i ≡ true) → IsFront xs ys → IsFront xs (filter p ys)
front_filter p xs ys h front = (filter p front.0, ap (filter p) front.1 ∙ filter-append p xs front.0 ∙ ap (λ zs. zs ++ filter p front.0) (filter_all p xs h))

-- a filter that takes the front away
pub front_removed : (xs ys zs : List ℕ) → Distinct (xs ++ (ys ++ zs)) → filter (λ i. not (holds xs i)) (xs ++ (ys ++ zs)) ≡ ys ++ zs
front_removed xs ys zs d =
    filter-append (λ i. not (holds xs i)) xs (ys ++ zs)
    ∙ ap (λ ws. ws ++ filter (λ i. not (holds xs i)) (ys ++ zs)) (filter_none (λ i. not (holds xs i)) xs (λ i m. ap not m))
    ∙ filter_all (λ i. not (holds xs i)) (ys ++ zs) (λ i m. ap not (not_in xs i (λ a. Distinct-apart xs (ys ++ zs) i d a m)))

pub front_In : (xs ys : List ℕ) (i : ℕ) → IsFront xs ys → In xs i → In ys i
front_In xs ys i front m = subst (λ zs. In zs i) (sym front.1) (In-append_left xs front.0 i m)

pub take_front : (k : ℕ) (ys : List ℕ) → IsFront (take k ys) ys
take_front k ys = (drop k ys, sym (take-append-drop k ys))

-- the front of a front is a front
pub front_front : (xs ys zs : List ℕ) → IsFront xs ys → IsFront ys zs → IsFront xs zs
front_front xs ys zs a b = (a.0 ++ b.0, b.1 ∙ ap (λ ws. ws ++ b.0) a.1 ∙ append_assoc xs a.0 b.0)

pub In-drop : (k : ℕ) (xs : List ℕ) (i : ℕ) → In (drop k xs) i → In xs i
In-drop zero xs i h = h
In-drop (suc k) [] i h = h
In-drop (suc k) (x ∷ xs) i h = In-there x xs i (In-drop k xs i h)

-- tests that agree on each member have the same front
pub take_while_agree : (p q : ℕ → Bool) (xs : List ℕ) → ((i : ℕ) → In xs i → p i ≡ q i) → take_while p xs ≡ take_while q xs
take_while_agree p q [] same = refl
take_while_agree p q (x ∷ xs) same =
    let rest : take_while p xs ≡ take_while q xs = take_while_agree p q xs (λ i m. same i (In-there x xs i m)) in
    let here : p x ≡ q x = same x (In-here x xs x refl) in
    take_while-cons p x xs ∙ ap (λ b. cond b (x ∷ take_while p xs) []) here ∙ ap (λ ys. cond (q x) (x ∷ ys) []) rest ∙ sym (take_while-cons q x xs)
